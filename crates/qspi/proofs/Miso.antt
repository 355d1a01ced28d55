-- What an entry reads on MISO, by its assignment and direction. Assumes nothing.
use mathlib.Core.Path.{◌≡◌, refl, ap, ◌∙◌}
use mathlib.Core.Bool.{Bool, false}
use Prim.Native.Nat.{ℕ, zero, suc, ◌+◌, ◌*◌}
use lib.ListN.{set}
use Rattle.steps.specs.Bits.{digit}
use Rattle.qspi.specs.model.Fields.{cpha}
use Rattle.qspi.specs.model.Queue.{entry_at, begun}
use Rattle.qspi.specs.claims.Run.{bits_in, edge_clock, reading_edge, word_of, bits_read}
use Rattle.qspi.specs.claims.Clauses.{levels_read, MisoRead, MisoZeros}
use Rattle.qspi.proofs.Word.{word_stored}

same_word : (f g : ℕ → Bool) → ((i : ℕ) → f i ≡ g i) → (n : ℕ) → word_of f n ≡ word_of g n
unfolding word_of
same_word f g same zero = refl
same_word f g same (suc n) =
    ap (λ w. w * 2 + digit (f n)) (same_word f g same n) ∙ ap (λ b. word_of g n * 2 + digit b) (same n)

zero_word : (n : ℕ) → word_of (λ i. false) n ≡ 0
unfolding word_of
zero_word zero = refl
zero_word (suc n) = ap (λ w. w * 2 + 0) (zero_word n)

pub miso_read : MisoRead
miso_read q pins s calm reads =
    (word_stored q pins s calm).0
    ∙ ap (set q.ram.receive (entry_at q))
    (same_word (bits_read (begun q) pins) (levels_read (begun q) pins)
    (λ i. rw (reads (edge_clock (begun q) (reading_edge (cpha q.registers.spcr0) i)))) (bits_in (begun q)))

pub miso_zeros : MisoZeros
miso_zeros q pins s calm none =
    (word_stored q pins s calm).0
    ∙ ap (set q.ram.receive (entry_at q))
    (same_word (bits_read (begun q) pins) (λ i. false)
    (λ i. rw (none (edge_clock (begun q) (reading_edge (cpha q.registers.spcr0) i)))) (bits_in (begun q))
    ∙ zero_word (bits_in (begun q)))
