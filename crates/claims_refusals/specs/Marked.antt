-- Document 01, Marked examples: K1 to K12, one statement over a list of them. K12 has answers of kind 11 (02, L9).
use Rattle.std.specs.Prelude.{◌≡◌, true, List, [], ◌∷◌, ℕ, ◌≤◌}
use Rattle.sci.specs.claims.Marked.{K1, K2, K3, K4, K5, K6, K11}
use Rattle.qspi.specs.claims.Marked.{K7, K8, K9, K10}
use Rattle.qsm.specs.declared.state.Module.{Module}
use Rattle.trace.specs.Play.{play}

-- Each of a list of statements holds.
abbrev pub All : List (Type 0) → Type 0
All [] = Unit {0}
All (p ∷ ps) = p × All ps

-- A reset, and a supervisor's read of SCSR.
abbrev pub trace : List ℕ
trace = 0x01 ∷ 0x03 ∷ 0x82 ∷ 0x00 ∷ 0x0C ∷ []

abbrev pub answers : List ℕ
answers =
    0x11 ∷ 0x00 ∷ 0x00 ∷ 0x00 ∷ 0x00 ∷ 0x00 ∷ 0x00 ∷ 0x00 ∷ 0x00 ∷ 0x00 ∷
    0x00 ∷ 0x00 ∷ 0x00 ∷ 0x00 ∷ 0x00 ∷ 0x00 ∷ 0x00 ∷ 0x00 ∷
    0x11 ∷ 0x00 ∷ 0x00 ∷ 0x00 ∷ 0x01 ∷ 0x80 ∷ 0x00 ∷ 0x00 ∷ 0x00 ∷ 0x00 ∷
    0x00 ∷ 0x00 ∷ 0x00 ∷ 0x00 ∷ 0x00 ∷ 0x00 ∷ 0x00 ∷ 0x00 ∷ []

-- The trace above, whatever module it starts from, where there is room for its answers.
abbrev pub K12 : Type 0
K12 =
    (m : Module) (room : ℕ) → 36 ≤ room → ((play m trace room).answers ≡ answers) × ((play m trace room).stop ≡ 0)

abbrev pub examples : List (Type 0)
examples =
    (K1 ≡ true) ∷
    (K2 ≡ true) ∷
    (K3 ≡ true) ∷
    (K4 ≡ true) ∷
    (K5 ≡ true) ∷
    (K6 ≡ true) ∷
    K7 ∷
    K8 ∷
    K9 ∷
    K10 ∷
    (K11 ≡ true) ∷
    K12 ∷
    []

abbrev pub Marked : Type 0
Marked = All examples
