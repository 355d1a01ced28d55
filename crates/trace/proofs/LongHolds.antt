-- The laws of specs/LongHolds: a reader of fewer kinds beside one of every kind, record by record. Assumes nothing.
use mathlib.Core.Path.{◌≡◌, refl, sym, ap, subst, ◌∙◌}
use mathlib.Core.Bool.{Bool, true, false, cond, ◌||◌, true≢false}
use mathlib.Core.List.{List, [], ◌∷◌, ◌++◌, flatten}
use Prim.Native.Nat.{ℕ, zero, suc, ◌+◌, ◌-◌, ◌*◌, ◌/◌, ◌%◌, ◌^◌, ◌<◌, ◌≤◌}
use native.Mathlib.Nat.{div-div-eq-div-mul}
use native.Mathlib.Omega.{arith}
use lib.Dec.{eqb, ltb}
use lib.ListN.{length, take, drop, length-drop}
use lib.Seq.{take-append-le, drop-append-le}
use borrow.Author.Tests.{ltb-false, ne_eqb}
use Rattle.qsm.specs.declared.state.Module.{Module}
use Rattle.qsm.specs.declared.event.Answer.{Answer}
use Rattle.qsm.specs.declared.event.Done.{Done}
use Rattle.qsm.specs.declared.event.Event.{Event}
use Rattle.qsm.specs.declared.event.Event.TheVariants.{Hold}
use Rattle.qsm.specs.model.Event.{answer_of, passes, step}
use Rattle.qsm.specs.claims.Count.{limited}
use Rattle.qsm.proofs.Limit.{hold_played, is_room}
use Rattle.qsm.proofs.Splitting.{splits, refused_in_parts}
use Rattle.trace.specs.Trace.{byte_at, long_hold_kind, by_kind, every_kind, earlier, parsed_by, parsed, answer_length, answer_bytes, Reader, reader}
use Rattle.trace.specs.Play.{Outcome, stopped, answered_by, answered, followed, turn, play_for, play_by, play}
use Rattle.trace.specs.Laws.{unknown, record_length, Each, with_stop, unread}
use Rattle.trace.specs.LongHolds.{kinds_for, document01, Same, SameLogs, StopsBefore05, GoesOn, EveryCount, SplitRecords, plain, longest, Met, LongHolds}
use Rattle.trace.specs.declared.Parsed.{Parsed}
use Rattle.trace.specs.declared.Parsed.TheVariants.{Record, Unknown, Cut}
use Rattle.trace.proofs.Playing.{taken, record_within, otherwise, unroll, play_none, one_on, followed_assoc, record_kept, kind_told, played}
use Rattle.trace.proofs.Forms.{taking, same_answers}
use Rattle.trace.proofs.Laws.{Known, known_by_kind, unread_next, in_parts}

-- ---- a reader that takes some kinds

module _ (takes : ℕ → Bool) (size : ℕ) (bytes : Answer → List ℕ) where
  abbrev fewer : Reader
  fewer = record { takes = takes; size = size; bytes = bytes }

  abbrev every : Reader
  every = record { takes = every_kind; size = size; bytes = bytes }

  abbrev All : List ℕ → Type 0
  All ks = Each (λ (kind : ℕ). takes kind ≡ true) ks

  -- A turn is the same where what follows the record is.
  same_turn : (k : ℕ) (m : Module) (t : List ℕ) (room : ℕ) (p : Parsed) → Known (unknown t) (record_length t) p
      → (unknown t ≡ false → (m' : Module) (room' : ℕ) → play_for fewer k m' (drop (record_length t) t) room' ≡ play_for every k m' (drop (record_length t) t) room')
      → turn fewer (play_for fewer k) m t room p ≡ turn every (play_for every k) m t room p
  same_turn k m t room (Record e n) is h =
      ap (λ (o : Outcome). cond (ltb room size) (stopped m 7) (cond (limited m e) (stopped m 10) (followed (answered_by every (step m e) (take n t)) o)))
      (subst (λ (j : ℕ). play_for fewer k (step m e).state (drop j t) (room - size) ≡ play_for every k (step m e).state (drop j t) (room - size))
      (sym is.1) (h is.0 (step m e).state (room - size)))
  same_turn k m t room Unknown is h = refl
  same_turn k m t room Cut is h = refl

  same_for : (k : ℕ) (m : Module) (t : List ℕ) (room : ℕ) → All (kinds_for k t) → play_for fewer k m t room ≡ play_for every k m t room
  unfolding play_for kinds_for
  same_for zero m t room all = refl
  same_for (suc k) m t room all = go (eqb (length t) 0) (λ ks m' room'. same_for k m' (drop (record_length t) t) room' ks) all
    where
      go : (over : Bool)
          → (All (kinds_for k (drop (record_length t) t)) → (m' : Module) (room' : ℕ) → play_for fewer k m' (drop (record_length t) t) room' ≡ play_for every k m' (drop (record_length t) t) room')
          → All (cond over [] (byte_at t 0 ∷ cond (unknown t) [] (kinds_for k (drop (record_length t) t))))
          → cond over (stopped m 0) (turn fewer (play_for fewer k) m t room (cond over Cut (cond (takes (byte_at t 0)) (by_kind (byte_at t 0) t) Unknown)))
          ≡ cond over (stopped m 0) (turn every (play_for every k) m t room (cond over Cut (by_kind (byte_at t 0) t)))
      go true next rest = refl
      go false next rest =
          let known : unknown t ≡ false → All (kinds_for k (drop (record_length t) t)) =
          λ is. subst (λ (b : Bool). All (cond b [] (kinds_for k (drop (record_length t) t)))) is rest.1 in
          rw rest.0 (same_turn k m t room (by_kind (byte_at t 0) t) (known_by_kind t) (λ is. next (known is)))

  -- What it takes for a record is one to it where more follows.
  taken_kept : (x : ℕ) (t u : List ℕ) {e : Event} {n : ℕ} → takes x ≡ true → parsed (x ∷ t) ≡ Record e n → parsed_by takes ((x ∷ t) ++ u) ≡ Record e n
  taken_kept x t u has is = rw has (record_kept (x ∷ t) u is)

  module _ (kind : ℕ) (u : List ℕ) (not_taken : takes kind ≡ false) where
    stops_here_holds : (m : Module) (room : ℕ) → play_by fewer m (kind ∷ u) room ≡ stopped m 5
    stops_here_holds m room = unroll fewer m (kind ∷ u) room (omega arith) ∙ simp (ne_eqb (length (kind ∷ u)) 0 (λ z. omega arith), not_taken)

    -- A record of t, by what follows it.
    stops_after : (k : ℕ) (m : Module) (x : ℕ) (t : List ℕ) (room : ℕ) (p : Parsed) → takes x ≡ true → parsed (x ∷ t) ≡ p
        → ((e : Event) (n : ℕ) → p ≡ Record e n → (play_for every k (step m e).state (drop n (x ∷ t)) (room - size)).stop ≡ 0
        → play_by fewer (step m e).state (drop n (x ∷ t) ++ (kind ∷ u)) (room - size)
        ≡ with_stop 5 (play_for every k (step m e).state (drop n (x ∷ t)) (room - size)))
        → (turn every (play_for every k) m (x ∷ t) room p).stop ≡ 0
        → play_by fewer m ((x ∷ t) ++ (kind ∷ u)) room ≡ with_stop 5 (turn every (play_for every k) m (x ∷ t) room p)
    stops_after k m x t room Unknown has is next end = absurd (omega (arith, end))
    stops_after k m x t room Cut has is next end = absurd (omega (arith, end))
    stops_after k m x t room (Record e n) has is next end = by_room (ltb room size) refl end
      where
        a : Outcome
        a = answered_by every (step m e) (take n (x ∷ t))

        rest : Outcome
        rest = play_for every k (step m e).state (drop n (x ∷ t)) (room - size)

        by_limit : (b : Bool) → size ≤ room → limited m e ≡ b → (cond b (stopped m 10) (followed a rest)).stop ≡ 0
            → play_by fewer m ((x ∷ t) ++ (kind ∷ u)) room ≡ with_stop 5 (cond b (stopped m 10) (followed a rest))
        by_limit true fits over end = absurd (omega (arith, end))
        by_limit false fits free end =
            let le : n ≤ length (x ∷ t) = (record_within (x ∷ t) is).1 in
            one_on fewer m ((x ∷ t) ++ (kind ∷ u)) room e n (taken_kept x t (kind ∷ u) has is) fits free
            ∙ simp (take-append-le n (x ∷ t) (kind ∷ u) le, drop-append-le n (x ∷ t) (kind ∷ u) le) (ap (followed a) (next e n refl end))

        by_room : (b : Bool) → ltb room size ≡ b → (cond b (stopped m 7) (cond (limited m e) (stopped m 10) (followed a rest))).stop ≡ 0
            → play_by fewer m ((x ∷ t) ++ (kind ∷ u)) room ≡ with_stop 5 (cond b (stopped m 7) (cond (limited m e) (stopped m 10) (followed a rest)))
        by_room true full end = absurd (omega (arith, end))
        by_room false fits end = by_limit (limited m e) (ltb-false room size fits) refl end

    stops_for : (k : ℕ) (m : Module) (t : List ℕ) (room : ℕ) → length t ≤ k → All (kinds_for k t) → (play_for every k m t room).stop ≡ 0
        → play_by fewer m (t ++ (kind ∷ u)) room ≡ with_stop 5 (play_for every k m t room)
    unfolding play_for kinds_for
    stops_for zero m [] room le all end = stops_here_holds m room
    stops_for zero m (x ∷ t) room le all end = absurd (omega arith)
    stops_for (suc k) m [] room le all end = stops_here_holds m room
    stops_for (suc k) m (x ∷ t) room le all end =
        let some : eqb (length (x ∷ t)) 0 ≡ false = ne_eqb (length (x ∷ t)) 0 (λ z. omega arith) in
        let later : List ℕ = cond (unknown (x ∷ t)) [] (kinds_for k (drop (record_length (x ∷ t)) (x ∷ t))) in
        let first : (takes x ≡ true) × All later = subst (λ (b : Bool). All (cond b [] (x ∷ later))) some all in
        let after : (e : Event) (n : ℕ) → parsed (x ∷ t) ≡ Record e n → (play_for every k (step m e).state (drop n (x ∷ t)) (room - size)).stop ≡ 0
        → play_by fewer (step m e).state (drop n (x ∷ t) ++ (kind ∷ u)) (room - size)
        ≡ with_stop 5 (play_for every k (step m e).state (drop n (x ∷ t)) (room - size)) =
        λ e n is end.
        let w : (0 < n) × (n ≤ length (x ∷ t)) = record_within (x ∷ t) is in
        let known : (unknown (x ∷ t) ≡ false) × (n ≡ record_length (x ∷ t)) =
        subst (Known (unknown (x ∷ t)) (record_length (x ∷ t))) (kind_told (x ∷ t) (x ∷ t) is) (known_by_kind (x ∷ t)) in
        let ks : All (kinds_for k (drop (record_length (x ∷ t)) (x ∷ t))) =
        subst (λ (b : Bool). All (cond b [] (kinds_for k (drop (record_length (x ∷ t)) (x ∷ t))))) known.0 first.1 in
        stops_for k (step m e).state (drop n (x ∷ t)) (room - size) (simp length-drop (omega (arith, w.0)))
        (subst (λ (j : ℕ). All (kinds_for k (drop j (x ∷ t)))) (sym known.1) ks) end in
        subst (λ (o : Outcome). o.stop ≡ 0 → play_by fewer m ((x ∷ t) ++ (kind ∷ u)) room ≡ with_stop 5 o)
        (sym (otherwise (eqb (length (x ∷ t)) 0) (stopped m 0) some))
        (stops_after k m x t room (parsed (x ∷ t)) first.0 refl after) end

-- ---- a reader of some kinds that answers as now

goes_on_by : (takes : ℕ → Bool) (m : Module) (t : List ℕ) (room : ℕ) →
    play m t room
    ≡ followed (play_by (taking takes) m t room)
    (play (play_by (taking takes) m t room).state (unread (play_by (taking takes) m t room) t) (room - length (play_by (taking takes) m t room).answers))
unfolding flatten
goes_on_by takes =
    played (taking takes) (λ m t room o. play m t room ≡ followed o (play o.state (unread o t) (room - length o.answers)))
    (λ m t room why end. let all : room ≡ room - 0 = omega arith in ap (play m t) all)
    (λ m t room e n o is pos le fits free h.
    let a = answered (step m e) (take n t) in
    let left : room - answer_length - length o.answers ≡ room - length (followed a o).answers = omega arith in
    one_on reader m t room e n (taken takes t is) fits free ∙ ap (followed a) h
    ∙ sym (followed_assoc a o _)
    ∙ simp (left, sym (unread_next m t e n o le)))

pub same_logs : SameLogs
same_logs m t room room' many without =
    subst (Same (play_by document01 m t room)) (same_for earlier answer_length answer_bytes (length t) m t room' without)
    (same_answers earlier (length t) m t room room' many)

pub stops_before_05 : StopsBefore05
stops_before_05 m t u room room' many without end =
    subst (Same (play_by document01 m (t ++ (long_hold_kind ∷ u)) room))
    (stops_for earlier answer_length answer_bytes long_hold_kind u refl (length t) m t room' (omega arith) without end)
    (same_answers earlier (length (t ++ (long_hold_kind ∷ u))) m (t ++ (long_hold_kind ∷ u)) room room' many)

pub goes_on : GoesOn
goes_on m t room room' many = (
  play_by (taking earlier) m t room',
  same_answers earlier (length t) m t room room' many,
  goes_on_by earlier m t room',
)

-- ---- the count of 05

-- The low word of a number from its bytes, and the whole number from those of both words.
low_word : (v : ℕ) → v / 256 % 256 * 256 + v % 256 ≡ v % 65536
low_word v =
    let twice : v / 256 / 256 ≡ v / 65536 = div-div-eq-div-mul v 256 256 in
    omega arith

pub four_bytes : (v : ℕ) → v < 2 ^ 32 → (v / 16777216 % 256 * 256 + v / 65536 % 256) * 65536 + (v / 256 % 256 * 256 + v % 256) ≡ v
four_bytes v h =
    let high : v / 16777216 ≡ v / 65536 / 256 = sym (div-div-eq-div-mul v 65536 256) in
    rw (high, low_word (v / 65536), low_word v) (omega arith)

pub every_count : EveryCount
every_count pins rxd n small = rw (four_bytes n small)

-- ---- a hold split in a trace

-- A record by itself, with room for its answer.
alone : (m : Module) (r : List ℕ) (room : ℕ) (e : Event) → parsed r ≡ Record e (length r) → answer_length ≤ room → limited m e ≡ false →
    play m r room ≡ followed (answered (step m e) (take (length r) r)) (stopped (step m e).state 0)
alone m r room e is fits free =
    one_on reader m r room e (length r) is fits free
    ∙ ap (followed (answered (step m e) (take (length r) r)))
    (play_none reader (step m e).state (drop (length r) r) (room - answer_length) (simp length-drop (omega arith)))

-- A hold is not refused where the count has room.
free : (m : Module) (pins : ℕ) (rxd : Bool) (n : ℕ) → passes m n ≡ false → limited m (Hold pins rxd n) ≡ false
unfolding step answer_of
free m pins rxd n h = ap (λ (d : Done). eqb d.refusal 10) (hold_played m pins rxd n h)

-- Where the whole is not refused, neither part is.
neither : (x y : Bool) → x || y ≡ false → (x ≡ false) × (y ≡ false)
neither true y h = absurd (true≢false h)
neither false y h = (refl, h)

parts_free : (m : Module) (pins : ℕ) (rxd : Bool) (a b : ℕ) → passes m (a + b) ≡ false →
    (passes m a ≡ false) × (passes (step m (Hold pins rxd a)).state b ≡ false)
parts_free m pins rxd a b h = neither _ _ (sym (refused_in_parts m pins rxd a b) ∙ h)

pub split_records : SplitRecords
split_records m r s t pins rxd a b room fits room_for is-r is-s is-t =
    let first-free : passes m a ≡ false = (parts_free m pins rxd a b room_for).0 in
    let first : play m r room ≡ _ = alone m r room (Hold pins rxd a) is-r (omega arith) (free m pins rxd a first-free) in
    let state : (play m r room).state ≡ (step m (Hold pins rxd a)).state = ap (λ (o : Outcome). o.state) first in
    let answers : length (play m r room).answers ≡ answer_length = ap (λ (o : Outcome). length o.answers) first in
    let second-free : passes (play m r room).state b ≡ false = rw state (parts_free m pins rxd a b room_for).1 in
    ap (λ (o : Outcome). o.state) (in_parts m r s room (ap (λ (o : Outcome). o.stop) first))
    ∙ ap (λ (o : Outcome). o.state)
    (alone (play m r room).state s (room - length (play m r room).answers) (Hold pins rxd b) is-s (omega (arith, answers)) (free _ pins rxd b second-free))
    ∙ ap (λ (q : Module). (step q (Hold pins rxd b)).state) state
    ∙ ap (λ st. st.state) (splits m pins rxd a b room_for)
    ∙ sym (ap (λ (o : Outcome). o.state) (alone m t room (Hold pins rxd (a + b)) is-t (omega arith) (free m pins rxd (a + b) room_for)))

met : Met
unfolding kinds_for
met =
    record {
      without = (refl, tt);
      not_stopped = λ m h. ap (λ (o : Outcome). o.stop) (alone m plain 18 _ refl (omega arith) (free m 5 true 1285 (is_room m 1285 (omega arith))));
      newer = λ m h. ap (λ (o : Outcome). o.stop) (alone m longest 18 _ refl (omega arith) (free m 255 true 4294967295 (is_room m 4294967295 (omega arith))));
      older = λ m. ap (λ (o : Outcome). o.stop) (unroll document01 m longest 10 (omega arith));
      whole = refl;
      first = refl;
      second = refl;
    }

pub long_holds : LongHolds
long_holds =
    record {
      same_logs = same_logs;
      stops_before_05 = stops_before_05;
      goes_on = goes_on;
      every_count = every_count;
      split_records = split_records;
      met = met;
    }
