-- A whole trace is given back, record by record. Assumes nothing.
use mathlib.Core.Path.{◌≡◌, refl, ap, ◌∙◌}
use mathlib.Core.Bool.{true, false}
use mathlib.Core.Logic.{inl, inr}
use mathlib.Core.List.{List, [], ◌∷◌, ◌++◌, append-nil, append_assoc}
use Prim.Native.Nat.{ℕ, zero, suc, ◌+◌, ◌<◌, ◌≤◌}
use native.Mathlib.Omega.{arith}
use lib.Dec.{ltb}
use lib.ListN.{length, length-append}
use lib.Seq.{drop-append_seam}
use borrow.Author.Tests.{ne_eqb, ltb-true}
use Rattle.qsm.specs.declared.event.Access.TheVariants.{Read, Write}
use Rattle.qsm.specs.declared.event.Event.{Event}
use Rattle.qsm.specs.declared.event.Event.TheVariants.{Reset, Hold}
use Rattle.qsm.specs.declared.event.Event.TheVariants as events
use Rattle.trace.specs.Trace.{reset_kind, hold_kind, long_hold_kind}
use Rattle.tool_assemble.specs.Encode.{record_bytes}
use Rattle.tool_assemble.specs.Scan.{blanks_from, closed}
use Rattle.tool_assemble.specs.Item.{item, unblanked}
use Rattle.claims_assembling.specs.Laws.{Fits, printed}
use Rattle.claims_assembling.specs.Traces.{Whole, none, more, shown_from, made, after, assembled_from, TracesGiveBack, sample}
use Rattle.claims_assembling.proofs.Records.{lines_give_back, bytes_give_back}
use Rattle.claims_assembling.proofs.Texts.{clear, parts, printed_clear}

line_step : (line s r : List ℕ) → clear s ≡ true → assembled_from line (s ++ (10 ∷ r)) ≡ after (line ++ s) (item (line ++ s)) (assembled_from [] r)
unfolding assembled_from
line_step line [] r h = rw append-nil
line_step line (b ∷ s) r h =
    let both = parts (ltb 10 b) (clear s) h in
    let above : 10 < b = ltb-true 10 b both.0 in
    rw (ne_eqb b 10 (λ e. omega arith)) (line_step (line ++ (b ∷ [])) s r both.1 ∙ ap (λ (x : List ℕ). after x (item x) (assembled_from [] r)) (append_assoc line (b ∷ []) s))

some_bytes : (kind : ℕ) (e : Event) → Fits kind e → 0 < length (record_bytes kind e)
some_bytes kind Reset is = omega arith
some_bytes kind (Hold pins rxd clocks) (byte, inl (is, small)) = rw is (omega arith)
some_bytes kind (Hold pins rxd clocks) (byte, inr (is, small)) = rw is (omega arith)
some_bytes kind (events.Access (Read supervisor width offset)) fits = omega arith
some_bytes kind (events.Access (Write supervisor width offset value)) fits = omega arith

empty : assembled_from [] [] ≡ made []
unfolding assembled_from item unblanked blanks_from closed
empty = refl

nothing_shown : (most n : ℕ) → shown_from most n [] ≡ []
unfolding shown_from
nothing_shown zero n = refl
nothing_shown (suc most) n = refl

one_shown : (most n kind : ℕ) (e : Event) (t : List ℕ) → Fits kind e →
    shown_from (suc most) n (record_bytes kind e ++ t) ≡ (printed n kind e ++ (10 ∷ [])) ++ shown_from most (n + 1) t
unfolding shown_from
one_shown most n kind e t fits =
    let back = bytes_give_back kind e t fits in
    rw (back.0, back.1, drop-append_seam (record_bytes kind e) t)

back : (most n : ℕ) (t : List ℕ) → Whole t → length t ≤ most → assembled_from [] (shown_from most n t) ≡ made t
back most n t none room = rw (nothing_shown most n) empty
back zero n t (more kind e u fits whole) room =
    let some = some_bytes kind e fits in
    let all = length-append (record_bytes kind e) u in
    absurd (omega arith)
back (suc most) n t (more kind e u fits whole) room =
    let some = some_bytes kind e fits in
    let all = length-append (record_bytes kind e) u in
    rw (
      one_shown most n kind e u fits,
      append_assoc (printed n kind e) (10 ∷ []) (shown_from most (n + 1) u),
      line_step [] (printed n kind e) (shown_from most (n + 1) u) (printed_clear n kind e),
      lines_give_back n kind e fits,
      back most (n + 1) u whole (omega arith),
    )

pub traces_give_back : TracesGiveBack
traces_give_back t whole = back (length t) 0 t whole (omega arith)

pub met : Whole sample
met =
    more reset_kind Reset _ refl
    (more hold_kind (Hold 255 true 64) _ (omega arith, inl (refl, omega arith))
    (more long_hold_kind (Hold 0 false 1258200000) [] (omega arith, inr (refl, omega arith)) none))
