-- The invariant of the walk beside a log, and what each way out of a turn makes of it. Assumes nothing.
use mathlib.Core.Path.{◌≡◌, refl, sym, ap, ◌∙◌}
use mathlib.Core.Bool.{Bool, true, false, not, ◌&&◌, true≢false}
use mathlib.Core.List.{List, [], ◌∷◌, ◌++◌, append-nil, flatten}
use Prim.Native.Nat.{ℕ, zero, suc, ◌+◌, ◌-◌, ◌*◌, ◌<◌, ◌≤◌, min}
use native.Mathlib.Omega.{arith}
use lib.Dec.{eqb, ltb}
use lib.ListN.{length, take, drop, replicate, length-append, length-drop, drop_of_length-le}
use lib.Seq.{length-take-le, drop-drop, take_all, take-take, take-nil, drop-append_seam}
use borrow.Author.Tests.{lt-ltb, le-ltb, ltb-true, ltb-false, eq-eqb, ne_eqb}
use Rattle.qsm.specs.declared.state.Module.{Module}
use Rattle.qsm.specs.declared.event.Event.{Event}
use Rattle.qsm.specs.declared.event.Stepped.{Stepped}
use Rattle.qsm.specs.model.Event.{step}
use Rattle.qsm.specs.claims.Count.{limited}
use Rattle.qsm.proofs.Counting.{limited_stays}
use Rattle.trace.specs.Trace.{parsed, answer_length, answer_bytes, reader}
use Rattle.trace.specs.Play.{Outcome, refusal_of, stopped, answered, followed, turn, play}
use Rattle.trace.specs.declared.Parsed.{Parsed}
use Rattle.trace.specs.declared.Parsed.TheVariants.{Record, Unknown, Cut}
use Rattle.trace.proofs.Playing.{unroll, play_none, record_within, one_on, followed_assoc}
use Rattle.trace.proofs.Going.{rest, flatten_snoc}
use Rattle.tool_judge.specs.Verdict.{verdict, numbered, before}
use Rattle.tool_judge.specs.Judge.{room_of, walked_to, last_of, ran}
use Rattle.tool_judge.specs.Verdict.{Verdict, accept}
use Rattle.tool_judge.specs.declared.Ran.{Ran}
use Rattle.tool_judge.proofs.Verdicts.{none_right, joined}

-- ---- parts of a list

take_min : (k : ℕ) (l : List ℕ) → take (min k (length l)) l ≡ take k l
take_min k l = go (ltb (length l) k) refl
  where
    go : (t : Bool) → ltb (length l) k ≡ t → take (min k (length l)) l ≡ take k l
    go true h = let less = ltb-true (length l) k h in take_all (min k (length l)) l (omega arith) ∙ sym (take_all k l (omega arith))
    go false h = let le = ltb-false (length l) k h in
        let least : min k (length l) ≡ k = omega arith in
        ap (λ (j : ℕ). take j l) least

drop_min : (k : ℕ) (l : List ℕ) → drop (min k (length l)) l ≡ drop k l
drop_min k l = go (ltb (length l) k) refl
  where
    go : (t : Bool) → ltb (length l) k ≡ t → drop (min k (length l)) l ≡ drop k l
    go true h = let less = ltb-true (length l) k h in drop_of_length-le l {i = min k (length l)} (omega arith) ∙ sym (drop_of_length-le l {i = k} (omega arith))
    go false h = let le = ltb-false (length l) k h in
        let least : min k (length l) ≡ k = omega arith in
        ap (λ (j : ℕ). drop j l) least

pub drop_take : (k n : ℕ) (l : List ℕ) → drop k (take (k + n) l) ≡ take n (drop k l)
drop_take zero n l = let none : 0 + n ≡ n = omega arith in ap (λ (j : ℕ). take j l) none
drop_take (suc k) n [] = ap (drop (suc k)) (take-nil (suc k + n)) ∙ sym (take-nil n)
drop_take (suc k) n (x ∷ l) = let more : suc k + n ≡ suc (k + n) = omega arith in ap (λ (j : ℕ). drop (suc k) (take j (x ∷ l))) more ∙ drop_take k n l

-- The bytes of the log that stand beside answer n.
beside : (log : List ℕ) (passed here n : ℕ) → passed ≡ min (answer_length * n) (length log) → here ≡ min answer_length (length log - passed)
    → take here (drop passed log) ≡ take answer_length (drop (answer_length * n) log)
beside log passed here n is-passed is-here =
    let left : length (drop passed log) ≡ length log - passed = length-drop passed log in
    let few : here ≡ min answer_length (length (drop passed log)) = is-here ∙ ap (min answer_length) (sym left) in
    ap (λ (j : ℕ). take j (drop passed log)) few ∙ take_min answer_length (drop passed log)
    ∙ ap (λ (j : ℕ). take answer_length (drop j log)) is-passed ∙ ap (take answer_length) (drop_min (answer_length * n) log)

-- One answer further.
passes : (log : List ℕ) (passed here n : ℕ) → passed ≡ min (answer_length * n) (length log) → here ≡ min answer_length (length log - passed)
    → passed + here ≡ min (answer_length * (n + 1)) (length log)
passes log passed here n is-passed is-here = omega arith

-- Room for one answer more, unless it waits for the next part of the log.
fits : (last : Bool) (t log : List ℕ) (at n passed here : ℕ) → n ≤ at → at < length t → answer_length * n ≤ room_of last t log → passed ≡ min (answer_length * n) (length log)
    → here ≡ min answer_length (length log - passed) → not last && ltb here answer_length ≡ false → answer_length ≤ room_of last t log - answer_length * n
fits true t log at n passed here few lt room is-passed is-here e = omega arith
fits false t log at n passed here few lt room is-passed is-here e = let le = ltb-false here answer_length e in omega arith

full : (last : Bool) (t log : List ℕ) (n passed here : ℕ) → answer_length * n ≤ room_of last t log → passed ≡ min (answer_length * n) (length log)
    → here ≡ min answer_length (length log - passed) → not last && ltb here answer_length ≡ true → room_of last t log - answer_length * n < answer_length
full true t log n passed here room is-passed is-here e = absurd (true≢false (sym e))
full false t log n passed here room is-passed is-here e = let less = ltb-true here answer_length e in omega arith

-- An answer behind others is the last.
last_added : (xs bs : List ℕ) → length bs ≡ answer_length → last_of (xs ++ bs) ≡ bs
last_added xs bs whole =
    let long : length (xs ++ bs) ≡ length xs + answer_length = length-append xs bs ∙ ap (λ (k : ℕ). length xs + k) whole in
    let some : eqb (length (xs ++ bs)) 0 ≡ false = ne_eqb (length (xs ++ bs)) 0 (λ e. omega (arith, long, e)) in
    let place : length (xs ++ bs) - answer_length ≡ length xs = omega (arith, long) in
    rw (some, place) (drop-append_seam xs bs)

-- What is no record, or is cut, stops the trace.
refused : (m : Module) (t : List ℕ) (room : ℕ) (p : Parsed) → ((e : Event) (size : ℕ) → p ≡ Record e size → ⊥) → turn reader play m t room p ≡ stopped m (refusal_of p)
refused m t room (Record e size) other = absurd (other e size refl)
refused m t room Unknown other = refl
refused m t room Cut other = refl

-- ---- the invariant

-- The whole is what was played so far, on whose answers the verdict is, and then the rest of the trace from here.
pub record Going (t log : List ℕ) (last : Bool) (m₀ m : Module) (at passed n : ℕ) (v : Verdict) (ours : List ℕ) : Type 0 where
  pub done : Outcome
  pub inside : at ≤ length t
  pub few : n ≤ at
  pub read : at ≡ length (flatten done.records)
  pub count : n ≡ length done.records
  pub bytes : length done.answers ≡ answer_length * n
  pub room : answer_length * n ≤ room_of last t log
  pub past : passed ≡ min (answer_length * n) (length log)
  pub latest : ours ≡ last_of done.answers
  pub so_far : v ≡ verdict done.answers (take (answer_length * n) log)
  pub going : play m₀ t (room_of last t log) ≡ followed done (play m (drop at t) (room_of last t log - answer_length * n))

pub starts : (t log : List ℕ) (last : Bool) (m : Module) → Going t log last m m 0 0 0 accept (replicate answer_length 0)
unfolding flatten
starts t log last m =
    record {
      done = stopped m 0;
      inside = omega arith;
      few = omega arith;
      read = refl;
      count = refl;
      bytes = omega arith;
      room = omega arith;
      past = omega arith;
      latest = refl;
      so_far = sym (none_right (take (answer_length * 0) log) refl);
      going = ap (play m t) (omega arith);
    }

module _ (t log : List ℕ) (last : Bool) (m₀ m : Module) (at passed n : ℕ) (v : Verdict) (ours : List ℕ) (g : Going t log last m₀ m at passed n v ours) where
  abbrev room : ℕ
  room = room_of last t log - answer_length * n

  abbrev left : Module → ℕ → Ran
  left k why = record { walked = record { state = k; records = n; read = at; passed = passed; verdict = v; stop = why }; ours = ours }

  -- Nothing further is played.
  leaves : (why : ℕ) → play m (drop at t) room ≡ stopped m why → left m why ≡ ran m₀ t log last
  leaves why e =
      let all : play m₀ t (room_of last t log) ≡ followed g.done (stopped m why) = g.going ∙ ap (followed g.done) e in
      let answers : (play m₀ t (room_of last t log)).answers ≡ g.done.answers = ap (λ (o : Outcome). o.answers) all ∙ append-nil g.done.answers in
      let told : walked_to log (play m₀ t (room_of last t log)) ≡ (left m why).walked =
      ap (walked_to log) all ∙ simp (append-nil, g.bytes, sym g.count, sym g.read, sym g.past, sym g.so_far) in
      let given : last_of (play m₀ t (room_of last t log)).answers ≡ ours = ap last_of answers ∙ sym g.latest in
      sym (λ i. record { walked = told i; ours = given i })

  pub at_end_holds : length t ≤ at → left m 0 ≡ ran m₀ t log last
  at_end_holds le = leaves 0 (play_none reader m (drop at t) room (simp length-drop (omega arith)))

  module _ (lt : at < length t) where
    some : 0 < length (drop at t)
    some = simp length-drop (omega arith)

    -- Before what is no record, or is cut.
    pub at_refusal : (p : Parsed) (why : ℕ) → p ≡ parsed (take (length t - at) (drop at t)) → ((e : Event) (size : ℕ) → p ≡ Record e size → ⊥) → why ≡ refusal_of p
        → left m why ≡ ran m₀ t log last
    at_refusal p why is other e =
        leaves why (unroll reader m (drop at t) room some ∙ ap (turn reader play m (drop at t) room) (sym (is ∙ ap parsed (rest t at)))
        ∙ refused m (drop at t) room p other ∙ ap (stopped m) (sym e))

    module _ (p : Parsed) (e : Event) (size : ℕ) (is : p ≡ parsed (take (length t - at) (drop at t))) (whole : p ≡ Record e size)
        (here : ℕ) (is-here : here ≡ min answer_length (length log - passed)) (w : Bool) (is-w : w ≡ not last && ltb here answer_length) where
      record_here : parsed (drop at t) ≡ Record e size
      record_here = ap parsed (sym (rest t at)) ∙ sym is ∙ whole

      pub moves : (0 < size) × (at + size ≤ length t)
      moves = let r = record_within (drop at t) record_here in (r.0, omega (arith, r.1, length-drop at t))

      -- Before a record whose answer waits for the next part of the log.
      pub at_full : w ≡ true → left m 7 ≡ ran m₀ t log last
      at_full e =
          let none : room < answer_length = full last t log n passed here g.room g.past is-here (sym is-w ∙ e) in
          leaves 7 (unroll reader m (drop at t) room some ∙ ap (turn reader play m (drop at t) room) record_here ∙ simp (lt-ltb room answer_length none))

      module _ (s : Stepped) (goes : w ≡ false) (is_step : s ≡ step m e) where
        has : answer_length ≤ room
        has = fits last t log at n passed here g.few lt g.room g.past is-here (sym is-w ∙ goes)

        -- Before a hold that would pass 2^64 - 1 clocks.
        pub at_limit : s.answer.refusal ≡ 10 → left s.state 10 ≡ ran m₀ t log last
        at_limit is-10 =
            let refused-10 : (step m e).answer.refusal ≡ 10 = ap (λ (s : Stepped). s.answer.refusal) (sym is_step) ∙ is-10 in
            let over : limited m e ≡ true = eq-eqb (step m e).answer.refusal 10 refused-10 in
            ap (λ (k : Module). left k 10) (ap (λ (s : Stepped). s.state) is_step ∙ limited_stays m e refused-10)
            ∙ leaves 10 (unroll reader m (drop at t) room some ∙ ap (turn reader play m (drop at t) room) record_here ∙ simp (le-ltb room answer_length has, over))

        -- Past a record: the verdict has its answer too, and the trace goes on.
        pub goes_on : (v' : Verdict) (x : List ℕ) → (s.answer.refusal ≡ 10 → ⊥) → x ≡ answer_bytes s.answer
            → v' ≡ before v (numbered n (verdict x (take (passed + here - passed) (drop passed log)))) → Going t log last m₀ s.state (at + size) (passed + here) (n + 1) v' x
        goes_on v' x not-10 is_x is-v =
            let as_many : passed + here - passed ≡ here = omega arith in
            let y = take (passed + here - passed) (drop passed log) in
            let is_y : y ≡ take here (drop passed log) = ap (λ (j : ℕ). take j (drop passed log)) as_many in
            let free : limited m e ≡ false = ne_eqb (step m e).answer.refusal 10 (λ z. not-10 (ap (λ (s : Stepped). s.answer.refusal) is_step ∙ z)) in
            let bs = answer_bytes s.answer in
            let r = take size (drop at t) in
            let w = record_within (drop at t) record_here in
            let one = answered s r in
            let xs = g.done.answers in
            let more : answer_length * (n + 1) ≡ answer_length * n + answer_length = omega arith in
            let both = take (answer_length * n + answer_length) log in
            let next : play m (drop at t) room ≡ followed one (play s.state (drop size (drop at t)) (room - answer_length)) =
            one_on reader m (drop at t) room e size record_here has free ∙ simp is_step in
            let less : room - answer_length ≡ room_of last t log - answer_length * (n + 1) = omega arith in
            let first : take (length xs) both ≡ take (answer_length * n) log =
            ap (λ (k : ℕ). take k both) g.bytes ∙ take-take (answer_length * n) (answer_length * n + answer_length) log (omega arith) in
            let second : drop (length xs) both ≡ y =
            ap (λ (k : ℕ). drop k both) g.bytes ∙ drop_take (answer_length * n) answer_length log ∙ sym (beside log passed here n g.past is-here) ∙ sym is_y in
            record {
              done = followed g.done one;
              inside = moves.1;
              few = omega (arith, g.few, w.0);
              read = omega (arith, g.read, flatten_snoc g.done.records r, length-take-le size (drop at t) w.1);
              count = omega (arith, g.count, length-append g.done.records (r ∷ []));
              bytes = omega (arith, g.bytes, length-append xs bs);
              room = omega (arith, has, g.room);
              past = passes log passed here n g.past is-here;
              latest = is_x ∙ sym (last_added xs bs refl);
              so_far =
                  is-v ∙ ap (λ (l : List ℕ). before v (numbered n (verdict l y))) is_x ∙ ap (λ (u : Verdict). before u (numbered n (verdict bs y))) g.so_far
                  ∙ sym (joined xs bs both n g.bytes
                  ∙ ap (λ (l : List ℕ). before (verdict xs l) (numbered n (verdict bs (drop (length xs) both)))) first
                  ∙ ap (λ (l : List ℕ). before (verdict xs (take (answer_length * n) log)) (numbered n (verdict bs l))) second)
                  ∙ ap (λ (k : ℕ). verdict (xs ++ bs) (take k log)) (sym more);
              going =
                  g.going ∙ ap (followed g.done) next ∙ sym (followed_assoc g.done one _)
                  ∙ simp (less, drop-drop);
            }
