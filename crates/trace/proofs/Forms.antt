-- Answers of ten bytes, as document 01 has them, beside those of now: the same but for kind bytes and counts. Assumes nothing.
use mathlib.Core.Path.{◌≡◌, refl, sym, ap}
use mathlib.Core.Bool.{Bool, true, false, cond, true≢false}
use mathlib.Core.List.{List, ◌∷◌, ◌++◌}
use Prim.Native.Nat.{ℕ, zero, suc, ◌-◌}
use native.Mathlib.Omega.{arith}
use lib.Dec.{eqb, ltb}
use lib.ListN.{length, take, drop}
use borrow.Author.Tests.{lt-ltb, le-ltb, ltb-true, ltb-false}
use Rattle.qsm.specs.declared.state.Module.{Module}
use Rattle.qsm.specs.declared.event.Stepped.{Stepped}
use Rattle.qsm.specs.model.Event.{step}
use Rattle.qsm.specs.claims.Count.{limited}
use Rattle.trace.specs.Trace.{every_kind, parsed_by, answer_body, answer_length, answer_bytes, Reader}
use Rattle.trace.specs.Play.{Outcome, stopped, answered_by, answered, followed, turn, play_for}
use Rattle.trace.specs.LongHolds.{Same, AsMany}
use Rattle.trace.specs.declared.Parsed.{Parsed}
use Rattle.trace.specs.declared.Parsed.TheVariants.{Record, Unknown, Cut}

-- A reader of some kinds that answers as now, and one that answers as document 01.
abbrev pub taking : (ℕ → Bool) → Reader
taking takes = record { takes = takes; size = answer_length; bytes = answer_bytes }

abbrev pub ten : (ℕ → Bool) → Reader
ten takes = record { takes = takes; size = 10; bytes = λ a. 0x10 ∷ answer_body a }

at_once : (m : Module) (why : ℕ) → Same (stopped m why) (stopped m why)
at_once m why = record { state = refl; records = refl; stop = refl; log = refl }

same_then : (s : Stepped) (r : List ℕ) (o p : Outcome) → Same o p →
    Same (followed (answered_by (ten every_kind) s r) o) (followed (answered s r) p)
same_then s r o p h =
    record {
      state = h.state;
      records = ap (λ (rs : List (List ℕ)). r ∷ rs) h.records;
      stop = h.stop;
      log = ap (λ (l : List ℕ). answer_body s.answer ++ l) h.log;
    }

module _ (takes : ℕ → Bool) where
  rooms : (room room' : ℕ) → AsMany room room' → ltb room 10 ≡ ltb room' answer_length
  rooms room room' h = go (ltb room 10) refl
    where
      go : (b : Bool) → ltb room 10 ≡ b → b ≡ ltb room' answer_length
      go true full = sym (lt-ltb room' answer_length (omega (arith, ltb-true room 10 full)))
      go false fits = sym (le-ltb room' answer_length (omega (arith, ltb-false room 10 fits)))

  same_turns : (k : ℕ) (m : Module) (t : List ℕ) (room room' : ℕ) (p : Parsed) → AsMany room room'
      → ((m' : Module) (t' : List ℕ) (r r' : ℕ) → AsMany r r' → Same (play_for (ten takes) k m' t' r) (play_for (taking takes) k m' t' r'))
      → Same (turn (ten takes) (play_for (ten takes) k) m t room p) (turn (taking takes) (play_for (taking takes) k) m t room' p)
  same_turns k m t room room' Unknown many h = at_once m 5
  same_turns k m t room room' Cut many h = at_once m 6
  same_turns k m t room room' (Record e n) many h = by_room (ltb room 10) (ltb room' answer_length) (rooms room room' many) refl
    where
      o : Outcome
      o = play_for (ten takes) k (step m e).state (drop n t) (room - 10)

      p : Outcome
      p = play_for (taking takes) k (step m e).state (drop n t) (room' - answer_length)

      by_limit : (b : Bool) → Same o p
          → Same (cond b (stopped m 10) (followed (answered_by (ten takes) (step m e) (take n t)) o)) (cond b (stopped m 10) (followed (answered (step m e) (take n t)) p))
      by_limit true on = at_once m 10
      by_limit false on = same_then (step m e) (take n t) o p on

      by_room : (b b' : Bool) → b ≡ b' → ltb room 10 ≡ b
          → Same (cond b (stopped m 7) (cond (limited m e) (stopped m 10) (followed (answered_by (ten takes) (step m e) (take n t)) o)))
          (cond b' (stopped m 7) (cond (limited m e) (stopped m 10) (followed (answered (step m e) (take n t)) p)))
      by_room true true is full = at_once m 7
      by_room true false is full = absurd (true≢false is)
      by_room false true is fits = absurd (true≢false (sym is))
      by_room false false is fits =
          let fewer : AsMany (room - 10) (room' - answer_length) = omega (arith, ltb-false room 10 fits) in
          by_limit (limited m e) (h (step m e).state (drop n t) (room - 10) (room' - answer_length) fewer)

  pub same_answers : (k : ℕ) (m : Module) (t : List ℕ) (room room' : ℕ) → AsMany room room' →
      Same (play_for (ten takes) k m t room) (play_for (taking takes) k m t room')
  unfolding play_for
  same_answers zero m t room room' many = at_once m 0
  same_answers (suc k) m t room room' many =
      go (eqb (length t) 0) (parsed_by takes t) (λ m' t' r r' h. same_answers k m' t' r r' h)
    where
      go : (over : Bool) (p : Parsed)
          → ((m' : Module) (t' : List ℕ) (r r' : ℕ) → AsMany r r' → Same (play_for (ten takes) k m' t' r) (play_for (taking takes) k m' t' r'))
          → Same (cond over (stopped m 0) (turn (ten takes) (play_for (ten takes) k) m t room p)) (cond over (stopped m 0) (turn (taking takes) (play_for (taking takes) k) m t room' p))
      go true p next = at_once m 0
      go false p next = same_turns k m t room room' p many next
