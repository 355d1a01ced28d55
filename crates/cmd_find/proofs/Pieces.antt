-- A walk that goes on through the next piece stands where the walk through both does. Assumes nothing.
use mathlib.Core.Path.{◌≡◌, refl, sym, ap, ◌∙◌}
use mathlib.Core.Bool.{Bool, true, false, cond}
use mathlib.Core.List.{List, ◌++◌}
use Prim.Native.Nat.{ℕ, ◌+◌, ◌-◌, ◌≤◌}
use native.Mathlib.Omega.{arith}
use lib.Dec.{eqb}
use lib.ListN.{length, take, drop}
use lib.Seq.{drop-drop, drop-append-le}
use Rattle.tool_index.specs.Walk.{largest, possible, walked, went_on}
use Rattle.tool_index.specs.declared.walk.Position.{Position}
use Rattle.tool_index.specs.declared.walk.Walked.{Walked}
use Rattle.tool_index.proofs.Walking.{came, lent}
use Rattle.tool_index.proofs.InPieces.{walk_on}
use Rattle.cmd_find.specs.Piece.{standing_at, looked_by, looked}
use Rattle.cmd_find.specs.declared.piece.What.{What}
use Rattle.cmd_find.specs.declared.piece.Looked.{Looked}
use Rattle.cmd_find.specs.Laws.{InPieces}

abbrev or_stays : Bool → Position → List ℕ → ℕ → Walked
or_stays go p t n = cond go (walked p t n) (record { at = p; read = 0 })

within_by : (go : Bool) (p : Position) (t : List ℕ) (n : ℕ) → (or_stays go p t n).read ≤ length t
within_by true p t n = (came p t n).within
within_by false p t n = omega arith

pub within : (p : Position) (t : List ℕ) (n : ℕ) → (went_on p t n).read ≤ length t
within p t n = within_by (possible p (largest - length t)) p t n

pub read_within : (p : Position) (t : List ℕ) (n : ℕ) {v : Walked} → v ≡ went_on p t n → v.read ≤ length t
read_within p t n is = rw is (within p t n)

-- The place moves by the bytes that were passed.
place_by : (go : Bool) (p : Position) (t : List ℕ) (n : ℕ) → (or_stays go p t n).at.place ≡ p.place + (or_stays go p t n).read
place_by true p t n = refl
place_by false p t n = omega arith

place_is : (p : Position) (t : List ℕ) (n : ℕ) → (went_on p t n).at.place ≡ p.place + (went_on p t n).read
place_is p t n = place_by (possible p (largest - length t)) p t n

abbrev made : Walked → What → Looked
made v x = record { at = v.at; read = v.read; what = x }

-- What was found behind the bytes that a walk passed.
pub looks : (p : Position) (n : ℕ) (t : List ℕ) (ended : Bool) {v : Walked} {x : What} → v ≡ went_on p t n
    → x ≡ standing_at (eqb v.at.number n) (take (length t - v.read) (drop v.read t)) ended → made v x ≡ looked p n t ended
looks p n t ended {v} is there =
    ap (made v) (there ∙ ap (λ (s : List ℕ). standing_at (eqb v.at.number n) s ended) (lent t v.read))
    ∙ ap (λ (w : Walked). looked_by w n t ended) is

pub in_pieces : InPieces
in_pieces p n t u ended long h =
    let first = went_on p t n in
    let rest = drop first.read t ++ u in
    let next = went_on first.at rest n in
    let whole = went_on p (t ++ u) n in
    let same : next.at ≡ whole.at = walk_on p t u n long h in
    let passed : first.read + next.read ≡ whole.read =
    omega (arith, place_is p t n, place_is first.at rest n, place_is p (t ++ u) n, ap (λ (q : Position). q.place) same) in
    let left : drop next.read rest ≡ drop whole.read (t ++ u) =
    ap (drop next.read) (sym (drop-append-le first.read t u (within p t n))) ∙ drop-drop next.read first.read (t ++ u)
    ∙ ap (λ (k : ℕ). drop k (t ++ u)) passed in
    record {
      at = same;
      what =
          ap (λ (q : Position). standing_at (eqb q.number n) (drop next.read rest) ended) same
          ∙ ap (λ (s : List ℕ). standing_at (eqb whole.at.number n) s ended) left;
    }
