-- The laws of specs/Laws. Assumes nothing.
use mathlib.Core.Path.{◌≡◌, refl, sym, ap, ◌∙◌}
use mathlib.Core.Bool.{Bool, true, false, cond, true≢false}
use mathlib.Core.Logic.{◌⊎◌, inl, inr}
use mathlib.Core.List.{List, [], ◌∷◌, ◌++◌, flatten}
use Prim.Native.Nat.{ℕ, zero, suc, ◌+◌, ◌-◌, ◌*◌, ◌<◌, ◌≤◌, min}
use native.Mathlib.Omega.{arith}
use lib.Dec.{eqb, ltb}
use lib.ListN.{length, take, drop, length-append, length-drop}
use lib.Seq.{length-take-le, take-add, take-take, drop-append-le, take-append-le}
use borrow.Author.Tests.{le-ltb, eq-eqb, eqb-true, eqb-false}
use Rattle.qsm.specs.model.State.{reset_module}
use Rattle.qsm.specs.declared.state.Module.{Module}
use Rattle.qsm.specs.model.Event.{step}
use Rattle.qsm.specs.claims.Count.{limited}
use Rattle.trace.specs.Trace.{parsed, answer_length, reader}
use Rattle.trace.specs.Play.{Outcome, stopped, answered, followed, turn, play_for, play}
use Rattle.trace.specs.Laws.{unread}
use Rattle.trace.specs.declared.Parsed.{Parsed}
use Rattle.trace.specs.declared.Parsed.TheVariants.{Record, Unknown, Cut}
use Rattle.trace.proofs.Playing.{record_within, play_none, played}
use Rattle.trace.proofs.Laws.{bytes_each, answers_fit, read_within, resumes}
use Rattle.answers.specs.declared.Field.{Field}
use Rattle.tool_judge.specs.Verdict.{alike, first_wrong, wrong_in, verdict, numbered, before}
use Rattle.tool_judge.specs.Judge.{enough, expected, room_of, walked_to}
use Rattle.tool_judge.specs.Claims.{OwnAccepted, AcceptedEqual, answer, FirstDiffering, StopTold, afterwards, InParts, Met, Claims}
use Rattle.tool_judge.specs.Verdict.{Verdict, accept, reject}
use Rattle.std.specs.Prelude.{Ok, Err}
use Rattle.tool_judge.proofs.Beginnings.{alike_self, alike_equal}
use Rattle.tool_judge.proofs.Verdicts.{accepted, none_right, none_wrong, joined}
use Rattle.tool_judge.proofs.Walking.{drop_take}

-- ---- room enough is as good as more

module _ (f g : Module → List ℕ → ℕ → Outcome) where
  any_turn : (m : Module) (t : List ℕ) (room room' : ℕ) (p : Parsed) → parsed t ≡ p → enough t ≤ room → enough t ≤ room'
      → ((m' : Module) (n : ℕ) → 0 < n → n ≤ length t → f m' (drop n t) (room - answer_length) ≡ g m' (drop n t) (room' - answer_length))
      → turn reader f m t room p ≡ turn reader g m t room' p
  any_turn m t room room' (Record e n) is h i next =
      let w = record_within t is in
      let one : ltb room answer_length ≡ false = le-ltb room answer_length (omega (arith, w)) in
      let other : ltb room' answer_length ≡ false = le-ltb room' answer_length (omega (arith, w)) in
      rw (one, other) (ap (λ (o : Outcome). cond (limited m e) (stopped m 10) (followed (answered (step m e) (take n t)) o)) (next (step m e).state n w.0 w.1))
  any_turn m t room room' Unknown is h i next = refl
  any_turn m t room room' Cut is h i next = refl

any_for : (k : ℕ) (m : Module) (t : List ℕ) (room room' : ℕ) → enough t ≤ room → enough t ≤ room' → play_for reader k m t room ≡ play_for reader k m t room'
unfolding play_for
any_for zero m t room room' h i = refl
any_for (suc k) m t room room' h i =
    ap (cond (eqb (length t) 0) (stopped m 0))
    (any_turn (play_for reader k) (play_for reader k) m t room room' (parsed t) refl h i
    (λ m' n pos le. any_for k m' (drop n t) (room - answer_length) (room' - answer_length) (simp length-drop (omega arith)) (simp length-drop (omega arith))))

pub any_room : (m : Module) (t : List ℕ) (room room' : ℕ) → enough t ≤ room → enough t ≤ room' → play m t room ≡ play m t room'
any_room m t room room' h i = any_for (length t) m t room room' h i

-- ---- accepted

own_accepted : OwnAccepted
own_accepted t room h =
    let same : (play reset_module t room).answers ≡ (expected t).answers = ap (λ (o : Outcome). o.answers) (any_room reset_module t room (enough t) h (omega arith)) in
    ap (verdict (expected t).answers) same ∙ accepted (expected t).answers (expected t).answers (alike_self _) (alike_self _)

-- A verdict that is `Accepted` comes of equal lists only.
accepts : (x y : List ℕ) (s t : Bool) → eqb (alike x y) (length x) ≡ s → eqb (alike x y) (length y) ≡ t → verdict x y ≡ accept → x ≡ y
unfolding verdict
accepts x y true true p q e = alike_equal x y (eqb-true _ _ p) (eqb-true _ _ q)
accepts x y true false p q e = let no : reject (first_wrong x y) (wrong_in x y (first_wrong x y)) ≡ accept = rw (p, q) at e in cc
accepts x y false t p q e = let no : reject (first_wrong x y) (wrong_in x y (first_wrong x y)) ≡ accept = rw (p) at e in cc

accepted_equal : AcceptedEqual
accepted_equal t log room h e =
    sym (accepts (expected t).answers log _ _ refl refl e)
    ∙ ap (λ (o : Outcome). o.answers) (any_room reset_module t (enough t) room (omega arith) h)

-- ---- the first wrong answer

abbrev right : Verdict → Bool
right (Ok x) = true
right (Err w) = false

abbrev pub answer_in : Verdict → ℕ
answer_in (Ok x) = 0
answer_in (Err w) = w.answer

-- What a verdict that is not `Accepted` says.
names : (x y : List ℕ) (k : ℕ) (f : Field) (s t : Bool) → eqb (alike x y) (length x) ≡ s → eqb (alike x y) (length y) ≡ t → verdict x y ≡ reject k f
    → (k ≡ first_wrong x y) × (x ≡ y → ⊥)
unfolding verdict
names x y k f true true p q e = let no : accept ≡ reject k f = rw (p, q) at e in absurd (true≢false (ap right no))
names x y k f true false p q e =
    let is : reject (first_wrong x y) (wrong_in x y (first_wrong x y)) ≡ reject k f = rw (p, q) at e in
    (sym (ap answer_in is), λ h. eqb-false _ _ q (sym (ap (alike x) h) ∙ alike_self x ∙ ap length h))
names x y k f false t p q e =
    let is : reject (first_wrong x y) (wrong_in x y (first_wrong x y)) ≡ reject k f = rw (p) at e in
    (sym (ap answer_in is), λ h. eqb-false _ _ p (sym (ap (alike x) h) ∙ alike_self x))

pub same_start : (k : ℕ) (x y : List ℕ) → k ≤ alike x y → take k x ≡ take k y
unfolding alike
same_start zero x y h = refl
same_start (suc k) [] y h = absurd (omega (arith, h))
same_start (suc k) (a ∷ x) [] h = absurd (omega (arith, h))
same_start (suc k) (a ∷ x) (b ∷ y) h = go (eqb a b) refl (same_start k x y) h
  where
    go : (t : Bool) → eqb a b ≡ t → (k ≤ alike x y → take k x ≡ take k y) → suc k ≤ cond t (suc (alike x y)) 0 → a ∷ take k x ≡ b ∷ take k y
    go true e next le = rw (eqb-true a b e, next (omega arith))
    go false e next le = absurd (omega (arith, le))

heads : {a b : ℕ} {x y : List ℕ} → a ∷ x ≡ b ∷ y → (a ≡ b) × (x ≡ y)
heads e = (cc, cc)

pub further_on : (n : ℕ) (x y : List ℕ) → take n x ≡ take n y → (n ≤ alike x y) ⊎ (x ≡ y)
unfolding alike
further_on zero x y e = inl (omega arith)
further_on (suc n) [] [] e = inr refl
further_on (suc n) [] (b ∷ y) e = absurd (omega (arith, ap length e))
further_on (suc n) (a ∷ x) [] e = absurd (omega (arith, ap length e))
further_on (suc n) (a ∷ x) (b ∷ y) e = go (further_on n x y (heads e).1)
  where
    go : (n ≤ alike x y) ⊎ (x ≡ y) → (suc n ≤ cond (eqb a b) (suc (alike x y)) 0) ⊎ (a ∷ x ≡ b ∷ y)
    go (inl h) = inl (rw (eq-eqb a b (heads e).0) (omega arith))
    go (inr h) = inr (rw ((heads e).0, h))

first_differing : FirstDiffering
first_differing t log k f e =
    let x = (expected t).answers in
    let is = names x log k f _ _ refl refl e in
    let start : take (answer_length * k) x ≡ take (answer_length * k) log = same_start (answer_length * k) x log (omega (arith, is.0)) in
    (sym start, λ h. no x start is.0 is.1 h)
  where
    no : (x : List ℕ) → take (answer_length * k) x ≡ take (answer_length * k) log → k ≡ first_wrong x log → (x ≡ log → ⊥) → answer log k ≡ answer x k → ⊥
    no x start is differ h = go (further_on (answer_length * k + answer_length) x log
        (take-add (answer_length * k) answer_length x ∙ ap (λ (l : List ℕ). l ++ answer x k) start ∙ ap (λ (l : List ℕ). take (answer_length * k) log ++ l) (sym h)
        ∙ sym (take-add (answer_length * k) answer_length log)))
      where
        go : (answer_length * k + answer_length ≤ alike x log) ⊎ (x ≡ log) → ⊥
        go (inl le) = omega (arith, is, le)
        go (inr same) = differ same

stop_told : StopTold
stop_told t log = refl

-- ---- parts

pub flatten_both : (p q : List (List ℕ)) → length (flatten (p ++ q)) ≡ length (flatten p) + length (flatten q)
unfolding flatten
flatten_both [] q = omega arith
flatten_both (r ∷ p) q = omega (arith, flatten_both p q, length-append r (flatten (p ++ q)), length-append r (flatten p))

-- A record has at least a byte.
pub a_byte_each : (m : Module) (t : List ℕ) (room : ℕ) → length (play m t room).records ≤ length (flatten (play m t room).records)
unfolding flatten
a_byte_each =
    played reader (λ m t room o. length o.records ≤ length (flatten o.records)) (λ m t room why end. omega arith)
    (λ m t room e n o is pos le fits free h. omega (arith, h, length-append (take n t) (flatten o.records), length-take-le n t le))

least_both : (x y l b : ℕ) → x ≤ l → min (x + y) (l + b) ≡ min x l + min y (l - x + b)
least_both x y l b h = omega arith

module _ (m : Module) (t u a b : List ℕ) where
  abbrev o : Outcome
  o = play m t (length a)

  abbrev past : ℕ
  past = min (length o.answers) (length a)

  abbrev left : List ℕ
  left = drop past a ++ b

  abbrev unplayed : List ℕ
  unplayed = unread o t ++ u

  is_past : past ≡ length o.answers
  is_past = omega (arith, answers_fit m t (length a))

  left_length : length left ≡ length a - length o.answers + length b
  left_length = omega (arith, length-append (drop past a) b, length-drop past a, is_past)

  -- The whole is the part and then the rest, into the room that is left.
  whole : (last : Bool) → play m (t ++ u) (room_of last (t ++ u) (a ++ b)) ≡ followed o (play o.state unplayed (room_of last unplayed left))
  whole false =
      let room : length (a ++ b) ≡ length o.answers + length left = omega (arith, length-append a b, left_length, answers_fit m t (length a)) in
      ap (play m (t ++ u)) room ∙ resumes m t u (length a) (length left)
  whole true =
      let all = length-append t u in
      let some = length-append (unread o t) u in
      let gone = length-drop (length (flatten o.records)) t in
      let within = read_within m t (length a) in
      let each = a_byte_each m t (length a) in
      let bytes = bytes_each m t (length a) in
      let more = enough (t ++ u) - length o.answers in
      let room : enough (t ++ u) ≡ length o.answers + more = omega (arith, all, each, bytes, within) in
      let has : enough unplayed ≤ more = omega (arith, all, some, gone, each, bytes, within) in
      ap (play m (t ++ u)) room ∙ resumes m t u (length a) more
      ∙ ap (followed o) (any_room o.state unplayed more (enough unplayed) has (omega arith))

  together : (q : Outcome) → walked_to (a ++ b) (followed o q) ≡ afterwards (walked_to a o) (walked_to left q)
  together q =
      let x = o.answers in
      let y = q.answers in
      let both = take (length (x ++ y)) (a ++ b) in
      let fits = answers_fit m t (length a) in
      let sum : length (x ++ y) ≡ length x + length y = length-append x y in
      let records : length (o.records ++ q.records) ≡ length o.records + length q.records = length-append o.records q.records in
      let read = flatten_both o.records q.records in
      let passed : min (length (x ++ y)) (length (a ++ b)) ≡ past + min (length y) (length left) =
      ap (λ (k : ℕ). min k (length (a ++ b))) sum ∙ ap (min (length x + length y)) (length-append a b) ∙ least_both (length x) (length y) (length a) (length b) fits
      ∙ ap (λ (k : ℕ). past + min (length y) k) (sym left_length) in
      let first : take (length x) both ≡ take (length x) a =
      take-take (length x) (length (x ++ y)) (a ++ b) (omega (arith, sum)) ∙ take-append-le (length x) a b fits in
      let second : drop (length x) both ≡ take (length y) left =
      ap (λ (k : ℕ). drop (length x) (take k (a ++ b))) sum ∙ drop_take (length x) (length y) (a ++ b)
      ∙ ap (take (length y)) (drop-append-le (length x) a b fits ∙ ap (λ (k : ℕ). drop k a ++ b) (sym is_past)) in
      let judgement : verdict (x ++ y) both ≡ before (verdict x (take (length x) a)) (numbered (length o.records) (verdict y (take (length y) left))) =
      joined x y both (length o.records) (bytes_each m t (length a))
      ∙ ap (λ (l : List ℕ). before (verdict x l) (numbered (length o.records) (verdict y (drop (length x) both)))) first
      ∙ ap (λ (l : List ℕ). before (verdict x (take (length x) a)) (numbered (length o.records) (verdict y l))) second in
      rw (records, read, passed, judgement)

in_parts : InParts
in_parts m t u a b last = ap (walked_to (a ++ b)) (whole m t u a b last) ∙ together m t u a b _

met : Met
met =
    let none : (expected []).answers ≡ [] = ap (λ (o : Outcome). o.answers) (play_none reader reset_module [] 0 refl) in
    record {
      right = ap (λ (l : List ℕ). verdict l []) none ∙ none_right [] refl;
      wrong = ap (λ (l : List ℕ). verdict l (0x11 ∷ [])) none ∙ none_wrong (0x11 ∷ []) (omega arith);
    }

pub judging : Claims
judging =
    record {
      own_accepted = own_accepted;
      accepted_equal = accepted_equal;
      first_differing = first_differing;
      stop_told = stop_told;
      in_parts = in_parts;
      met = met;
    }
