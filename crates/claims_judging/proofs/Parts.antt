-- A trace that goes on where its log has ended. Assumes nothing.
use mathlib.Core.Path.{◌≡◌, refl, sym, ap, ◌∙◌}
use mathlib.Core.Bool.{Bool, true, false}
use mathlib.Core.List.{List, ◌++◌, flatten}
use Prim.Native.Nat.{ℕ, ◌+◌, ◌-◌, ◌≤◌, min}
use native.Mathlib.Omega.{arith}
use lib.Dec.{leb}
use lib.ListN.{length, take, drop, length-append, length-drop, drop_of_length-le}
use lib.Seq.{take-take}
use borrow.Author.Tests.{leb-true, leb-false}
use Rattle.qsm.specs.declared.state.Module.{Module}
use Rattle.trace.specs.Play.{Outcome, followed, play}
use Rattle.trace.specs.Laws.{unread}
use Rattle.trace.proofs.Laws.{bytes_each, read_within, resumes}
use Rattle.tool_judge.specs.Verdict.{verdict, numbered, before}
use Rattle.tool_judge.specs.Judge.{enough, walked_to}
use Rattle.tool_judge.specs.Claims.{afterwards}
use Rattle.tool_judge.proofs.Verdicts.{joined}
use Rattle.tool_judge.proofs.Walking.{drop_take}
use Rattle.tool_judge.proofs.Laws.{any_room, flatten_both, a_byte_each}
use Rattle.claims_judging.specs.Verdicts.{PartsAfterLog}

-- No more is dropped than there is.
drop_least : (n : ℕ) (l : List ℕ) (t : Bool) → leb n (length l) ≡ t → drop (min n (length l)) l ≡ drop n l
drop_least n l true is = let least : min n (length l) ≡ n = omega (arith, leb-true n (length l) is) in ap (λ (k : ℕ). drop k l) least
drop_least n l false is =
    let past = leb-false n (length l) is in
    drop_of_length-le l {i = min n (length l)} (omega (arith, past)) ∙ sym (drop_of_length-le l {i = n} (omega (arith, past)))

least_both : (x y l : ℕ) → min (x + y) l ≡ min x l + min y (l - min x l)
least_both x y l = omega arith

module _ (m : Module) (t u log : List ℕ) where
  abbrev o : Outcome
  o = play m t (enough t)

  abbrev past : ℕ
  past = min (length o.answers) (length log)

  abbrev left : List ℕ
  left = drop past log

  abbrev unplayed : List ℕ
  unplayed = unread o t ++ u

  whole : play m (t ++ u) (enough (t ++ u)) ≡ followed o (play o.state unplayed (enough unplayed))
  whole =
      let all = length-append t u in
      let some = length-append (unread o t) u in
      let gone = length-drop (length (flatten o.records)) t in
      let within = read_within m t (enough t) in
      let each = a_byte_each m t (enough t) in
      let bytes = bytes_each m t (enough t) in
      let more = enough (t ++ u) - length o.answers in
      let room : enough (t ++ u) ≡ length o.answers + more = omega (arith, all, each, bytes, within) in
      let has : enough unplayed ≤ more = omega (arith, all, some, gone, each, bytes, within) in
      ap (play m (t ++ u)) room ∙ resumes m t u (enough t) more
      ∙ ap (followed o) (any_room o.state unplayed more (enough unplayed) has (omega arith))

  together : (q : Outcome) → walked_to log (followed o q) ≡ afterwards (walked_to log o) (walked_to left q)
  together q =
      let x = o.answers in
      let y = q.answers in
      let both = take (length (x ++ y)) log in
      let sum : length (x ++ y) ≡ length x + length y = length-append x y in
      let records : length (o.records ++ q.records) ≡ length o.records + length q.records = length-append o.records q.records in
      let read = flatten_both o.records q.records in
      let rest : length left ≡ length log - past = length-drop past log in
      let passed : min (length (x ++ y)) (length log) ≡ past + min (length y) (length left) =
      ap (λ (k : ℕ). min k (length log)) sum ∙ least_both (length x) (length y) (length log) ∙ ap (λ (k : ℕ). past + min (length y) k) (sym rest) in
      let first : take (length x) both ≡ take (length x) log = take-take (length x) (length (x ++ y)) log (omega (arith, sum)) in
      let second : drop (length x) both ≡ take (length y) left =
      ap (λ (k : ℕ). drop (length x) (take k log)) sum ∙ drop_take (length x) (length y) log
      ∙ ap (take (length y)) (sym (drop_least (length x) log (leb (length x) (length log)) refl)) in
      let judgement : verdict (x ++ y) both ≡ before (verdict x (take (length x) log)) (numbered (length o.records) (verdict y (take (length y) left))) =
      joined x y both (length o.records) (bytes_each m t (enough t))
      ∙ ap (λ (l : List ℕ). before (verdict x l) (numbered (length o.records) (verdict y (drop (length x) both)))) first
      ∙ ap (λ (l : List ℕ). before (verdict x (take (length x) log)) (numbered (length o.records) (verdict y l))) second in
      rw (records, read, passed, judgement)

pub parts_after_log : PartsAfterLog
parts_after_log m t u log = ap (walked_to log) (whole m t u log) ∙ together m t u log _
