-- Demand 1, law by law: refusals 5 to 7, 10 of a record, and the end of a trace. Assumes nothing.
use mathlib.Core.Path.{◌≡◌, refl, sym, ap, ap₂, subst, ◌∙◌}
use mathlib.Core.Bool.{Bool, true, false, cond, not, ◌&&◌, ◌||◌}
use mathlib.Core.List.{List, [], ◌++◌, append-nil}
use Prim.Native.Nat.{ℕ, suc, ◌+◌, ◌-◌, ◌<◌}
use native.Mathlib.Omega.{arith}
use lib.Dec.{eqb, ltb}
use lib.ListN.{length, drop, length-append}
use borrow.Author.Tests.{ne_eqb, eqb-true, eqb-false, ltb-true, ltb-false}
use Rattle.qsm.specs.model.Event.{step}
use Rattle.qsm.specs.claims.Count.{limited}
use Rattle.qsm.specs.declared.state.Module.{Module}
use Rattle.qsm.specs.declared.event.Event.{Event}
use Rattle.trace.specs.Trace.{parsed, byte_at, by_kind, answer_length, reader}
use Rattle.trace.specs.Play.{Outcome, stopped, followed, turn, play}
use Rattle.trace.specs.declared.Parsed.{Parsed}
use Rattle.trace.specs.declared.Parsed.TheVariants.{Record, Unknown, Cut}
use Rattle.trace.proofs.Playing.{unroll, play_none, one_on}
use Rattle.trace.proofs.Laws.{answers_fit, bytes_each, resumes}
use Rattle.trace.specs.Laws.{unknown, cut, record_length}
use Rattle.claims_refusals.specs.Demand1.{Refusal5, Refusal6, Refusal7, Refusal10OfRecord, Ends, RecordByRecord, Output, rest, left, over, stops_here, number, stopped_with, answered_first}
use Rattle.claims_refusals.specs.Refusals.{past_limit, event_at}
use Rattle.claims_refusals.proofs.Tests.{absurd_bool}
use Rattle.claims_refusals.proofs.Limits.{limited_is}

no_kind : (a b c d l : Bool) (p q r s t u : Parsed) → not (a || b || c || d || l) ≡ true →
    cond a p (cond b q (cond c r (cond d s (cond l t u)))) ≡ u
no_kind true b c d l p q r s t u h = absurd_bool h
no_kind false true c d l p q r s t u h = absurd_bool h
no_kind false false true d l p q r s t u h = absurd_bool h
no_kind false false false true l p q r s t u h = absurd_bool h
no_kind false false false false true p q r s t u h = absurd_bool h
no_kind false false false false false p q r s t u h = refl

-- The kinds in order, by their tests: what a record of n bytes is, and its length.
abbrev chain : Bool → Bool → Bool → Bool → Bool → ℕ → Event → Event → Event → Event → Event → Parsed
chain a b c d l n e f g h i =
    cond a (Record e 1)
    (cond b (cond (ltb n 5) Cut (Record f 5))
    (cond c (cond (ltb n 4) Cut (Record g 4))
    (cond d (cond (ltb n 8) Cut (Record h 8)) (cond l (cond (ltb n 7) Cut (Record i 7)) Unknown))))

abbrev length_by : Bool → Bool → Bool → Bool → ℕ
length_by a b c d = cond a 1 (cond b 5 (cond c 4 (cond d 8 7)))

is_cut : (a b c d l : Bool) (n : ℕ) (e f g h i : Event) → 0 < n → not (a || b || c || d || l) ≡ false →
    ltb n (length_by a b c d) ≡ true → chain a b c d l n e f g h i ≡ Cut
is_cut true b c d l n e f g h i pos k less = absurd (omega (arith, ltb-true n 1 less))
is_cut false true c d l n e f g h i pos k less = rw less
is_cut false false true d l n e f g h i pos k less = rw less
is_cut false false false true l n e f g h i pos k less = rw less
is_cut false false false false true n e f g h i pos k less = rw less
is_cut false false false false false n e f g h i pos k less = absurd_bool (sym k)

abbrev event_by : Bool → Bool → Bool → Bool → Event → Event → Event → Event → Event → Event
event_by a b c d e f g h i = cond a e (cond b f (cond c g (cond d h i)))

is_whole : (a b c d l : Bool) (n : ℕ) (e f g h i : Event) → not (a || b || c || d || l) ≡ false →
    ltb n (length_by a b c d) ≡ false → chain a b c d l n e f g h i ≡ Record (event_by a b c d e f g h i) (length_by a b c d)
is_whole true b c d l n e f g h i k all = refl
is_whole false true c d l n e f g h i k all = rw all
is_whole false false true d l n e f g h i k all = rw all
is_whole false false false true l n e f g h i k all = rw all
is_whole false false false false true n e f g h i k all = rw all
is_whole false false false false false n e f g h i k all = absurd_bool (sym k)

-- A trace that isn't over is parsed by its kind.
begun : (t : List ℕ) → 0 < length t → parsed t ≡ by_kind (byte_at t 0) t
begun t pos = simp (ne_eqb (length t) 0 (λ z. omega arith))

unknown_is : (t : List ℕ) → 0 < length t → unknown t ≡ true → parsed t ≡ Unknown
unknown_is t pos h = begun t pos ∙ no_kind (eqb (byte_at t 0) 1) (eqb (byte_at t 0) 2) (eqb (byte_at t 0) 3) (eqb (byte_at t 0) 4) (eqb (byte_at t 0) 5) _ _ _ _ _ _ h

cut_is : (t : List ℕ) → 0 < length t → unknown t ≡ false → cut t ≡ true → parsed t ≡ Cut
cut_is t pos h k =
    begun t pos
    ∙ is_cut (eqb (byte_at t 0) 1) (eqb (byte_at t 0) 2) (eqb (byte_at t 0) 3) (eqb (byte_at t 0) 4) (eqb (byte_at t 0) 5) (length t) _ _ _ _ _ pos h k

whole_is : (t : List ℕ) → 0 < length t → unknown t ≡ false → cut t ≡ false → parsed t ≡ Record (event_at t) (record_length t)
whole_is t pos h k =
    begun t pos
    ∙ is_whole (eqb (byte_at t 0) 1) (eqb (byte_at t 0) 2) (eqb (byte_at t 0) 3) (eqb (byte_at t 0) 4) (eqb (byte_at t 0) 5) (length t) _ _ _ _ _ h k

some : (t : List ℕ) → over t ≡ false → 0 < length t
some t h = let ne : length t ≡ 0 → ⊥ = eqb-false (length t) 0 h in omega (arith, ne)

-- What comes of a trace, by the tests of its beginning.
module _ (m : Module) (t : List ℕ) (room : ℕ) where
  turned : over t ≡ false → (p : Parsed) → parsed t ≡ p → play m t room ≡ turn reader play m t room p
  turned io p is = unroll reader m t room (some t io) ∙ ap (turn reader play m t room) is

  by_tests : (o u c f p : Bool) → over t ≡ o → unknown t ≡ u → cut t ≡ c → ltb room 18 ≡ f → past_limit m t ≡ p →
      play m t room ≡ cond (o || u || c || f || p) (stopped_with (cond o 0 (cond u 5 (cond c 6 (cond f 7 10)))) m) (answered_first m t room)
  by_tests true u c f p io iu ic is ip = play_none reader m t room (eqb-true (length t) 0 io)
  by_tests false true c f p io iu ic is ip = turned io Unknown (unknown_is t (some t io) iu)
  by_tests false false true f p io iu ic is ip = turned io Cut (cut_is t (some t io) iu ic)
  by_tests false false false true p io iu ic is ip =
      let full : turn reader play m t room (Record (event_at t) (record_length t)) ≡ stopped m 7 = simp is in
      turned io _ (whole_is t (some t io) iu ic) ∙ full
  by_tests false false false false true io iu ic is ip =
      let w = whole_is t (some t io) iu ic in
      let past : limited m (event_at t) ≡ true = limited_is m t (event_at t) (record_length t) (sym (begun t (some t io)) ∙ w) ∙ ip in
      let over : turn reader play m t room (Record (event_at t) (record_length t)) ≡ stopped m 10 = simp (is, past) in
      turned io _ w ∙ over
  by_tests false false false false false io iu ic is ip =
      let w = whole_is t (some t io) iu ic in
      let free : limited m (event_at t) ≡ false = limited_is m t (event_at t) (record_length t) (sym (begun t (some t io)) ∙ w) ∙ ip in
      one_on reader m t room (event_at t) (record_length t) w (ltb-false room answer_length is) free

pub record_by_record : RecordByRecord
record_by_record m t room = by_tests m t room (over t) (unknown t) (cut t) (ltb room 18) (past_limit m t) refl refl refl refl refl

-- A trace of which no record is answered stops before the first.
first_stop : (m : Module) (t : List ℕ) (room : ℕ) (b : Bool) → stops_here m t room ≡ b → length (play m t room).records ≡ 0 →
    (b ≡ true) × ((play m t room).stop ≡ number t room)
first_stop m t room true is none =
    let one : play m t room ≡ stopped_with (number t room) m = subst (λ (b : Bool). play m t room ≡ cond b (stopped_with (number t room) m) (answered_first m t room)) is (record_by_record m t room) in
    (refl, ap (λ (q : Outcome). q.stop) one)
first_stop m t room false is none =
    let one : play m t room ≡ answered_first m t room = subst (λ (b : Bool). play m t room ≡ cond b (stopped_with (number t room) m) (answered_first m t room)) is (record_by_record m t room) in
    let more : length (play m t room).records ≡ suc (length (play (step m (event_at t)).state (drop (record_length t) t) (room - 18)).records)
    = ap (λ (q : Outcome). length q.records) one in
    absurd (omega (arith, none, more))

-- Playing goes no further from where it stands.
stands : (m : Module) (t : List ℕ) (room : ℕ) →
    play m t room ≡ followed (play m t room) (play (play m t room).state (rest m t room) (left m t room))
stands m t room =
    let fit : length (play m t room).answers + left m t room ≡ room = omega (arith, answers_fit m t room) in
    ap (λ (k : ℕ). play m t k) (sym fit)
    ∙ ap (λ (l : List ℕ). play m l (length (play m t room).answers + left m t room)) (sym (append-nil t))
    ∙ resumes m t [] room (left m t room)
    ∙ ap (λ (l : List ℕ). followed (play m t room) (play (play m t room).state l (left m t room))) (append-nil (rest m t room))

pub ends : Ends
ends m t room =
    let p : Outcome = play (play m t room).state (rest m t room) (left m t room) in
    let long : length (play m t room).records ≡ length ((play m t room).records ++ p.records)
    = ap (λ (q : Outcome). length q.records) (stands m t room) in
    let none : length p.records ≡ 0 = omega (arith, long, length-append (play m t room).records p.records) in
    let here = first_stop (play m t room).state (rest m t room) (left m t room) _ refl none in
    (here.0, ap (λ (q : Outcome). q.stop) (stands m t room) ∙ here.1)

-- What stops a trace, by the tests of its rest.
abbrev Stopping : ℕ → Bool → Bool → Bool → Bool → Bool → Type 0
Stopping stop over unknown cut full past =
    (eqb stop 5 ≡ not over && unknown) × (eqb stop 6 ≡ not over && not unknown && cut)
    × (eqb stop 7 ≡ not over && not unknown && not cut && full)
    × (eqb stop 10 ≡ not over && not unknown && not cut && not full && past)

numbered : (o u c f p : Bool) → o || u || c || f || p ≡ true → Stopping (cond o 0 (cond u 5 (cond c 6 (cond f 7 10)))) o u c f p
numbered true u c f p h = (refl, refl, refl, refl)
numbered false true c f p h = (refl, refl, refl, refl)
numbered false false true f p h = (refl, refl, refl, refl)
numbered false false false true p h = (refl, refl, refl, refl)
numbered false false false false true h = (refl, refl, refl, refl)
numbered false false false false false h = absurd_bool h

stopping : (m : Module) (t : List ℕ) (room : ℕ) →
    Stopping (play m t room).stop (over (rest m t room)) (unknown (rest m t room)) (cut (rest m t room)) (ltb (left m t room) 18)
    (past_limit (play m t room).state (rest m t room))
stopping m t room =
    subst
    (λ (k : ℕ). Stopping k (over (rest m t room)) (unknown (rest m t room)) (cut (rest m t room)) (ltb (left m t room) 18)
    (past_limit (play m t room).state (rest m t room)))
    (sym (ends m t room).1)
    (numbered (over (rest m t room)) (unknown (rest m t room)) (cut (rest m t room)) (ltb (left m t room) 18)
    (past_limit (play m t room).state (rest m t room)) (ends m t room).0)

pub refusal5 : Refusal5
refusal5 m t room = (stopping m t room).0

pub refusal6 : Refusal6
refusal6 m t room = (stopping m t room).1

pub refusal7 : Refusal7
refusal7 m t room = (stopping m t room).2

pub refusal10_of_record : Refusal10OfRecord
refusal10_of_record m t room = (stopping m t room).3

-- ---- the lent output

pub output : Output
output m t lent r out p =
    let o : Outcome = play m t (length lent) in
    let written : r.written ≡ length o.answers = p.written ∙ sym (bytes_each m t (length lent)) in
    record {
      state = p.state;
      stop = p.stop;
      bytes = written;
      stands = p.output;
      nothing =
          λ h.
          let one : o ≡ stopped_with (number t (length lent)) m =
          subst (λ (b : Bool). o ≡ cond b (stopped_with (number t (length lent)) m) (answered_first m t (length lent))) h (record_by_record m t (length lent)) in
          let none : r.written ≡ 0 = written ∙ ap (λ (q : Outcome). length q.answers) one in
          (p.state ∙ ap (λ (q : Outcome). q.state) one, none, p.output ∙ ap₂ (λ (q : Outcome) (k : ℕ). q.answers ++ drop k lent) one none);
    }
