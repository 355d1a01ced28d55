-- The invariant of `play`'s loop, and what each way out of a turn makes of it. Assumes nothing.
use mathlib.Core.Path.{◌≡◌, refl, sym, ap, subst, ◌∙◌}
use mathlib.Core.Bool.{true, false}
use mathlib.Core.Logic.{inl, inr}
use mathlib.Core.List.{List, [], ◌∷◌, ◌++◌, append_assoc, append-nil, flatten}
use Prim.Native.Nat.{ℕ, ◌+◌, ◌-◌, ◌*◌, ◌<◌, ◌≤◌}
use native.Mathlib.Omega.{arith}
use lib.ListN.{length, take, drop, take-append-drop, length-append, length-drop, drop_of_length-le}
use lib.Seq.{length-take-le, take_at, drop_at, drop-drop, take_all}
use borrow.Author.Tests.{lt-ltb, le-ltb, eq-eqb, ne_eqb}
use borrow.Rule.Slice.PartMut.{put_mid}
use types.Run.{OneOf}
use denote.Enum.Declared.{tag_of}
use Rattle.qsm.specs.declared.state.Module.{Module}
use Rattle.qsm.specs.declared.event.Event.{Event}
use Rattle.qsm.specs.declared.event.Stepped.{Stepped}
use Rattle.qsm.specs.model.Event.{step}
use Rattle.qsm.specs.claims.Count.{limited}
use Rattle.qsm.proofs.Counting.{limited_stays}
use Rattle.trace.specs.Trace.{parsed, answer_length, answer_bytes, reader}
use Rattle.trace.specs.Play.{Outcome, stop_number, refusal_of, stopped, answered, followed, turn, play, Plays}
use Rattle.trace.specs.declared.Parsed.{Parsed}
use Rattle.trace.specs.declared.Parsed.TheVariants.{Record, Unknown, Cut}
use Rattle.trace.specs.declared.Stop.{Stop}
use Rattle.trace.specs.contracts.Parsed as P
use Rattle.trace.proofs.Playing.{unroll, play_none, record_within, one_on, followed_assoc}

-- ---- n bytes written at a place of a list, the rest as it was

module _ (out : List ℕ) (put : ℕ) (bs : List ℕ) (n : ℕ) (is : length bs ≡ n) (fits : put + n ≤ length out) where
  abbrev wrote : List ℕ
  wrote = (take put out ++ bs) ++ drop (put + n) out

  front : length (take put out ++ bs) ≡ put + n
  front = length-append (take put out) bs ∙ ap (λ (k : ℕ). k + length bs) (length-take-le put out (omega arith)) ∙ ap (λ (k : ℕ). put + k) is

  wrote_length : length wrote ≡ length out
  wrote_length = simp (length-append, length-drop, length-take-le put out (omega arith), is) (omega arith)

  wrote_take : take (put + n) wrote ≡ take put out ++ bs
  wrote_take = take_at (take put out ++ bs) (drop (put + n) out) (put + n) front

  wrote_drop : drop (put + n) wrote ≡ drop (put + n) out
  wrote_drop = drop_at (take put out ++ bs) (drop (put + n) out) (put + n) front

  -- A part that was lent from `put` on, and came back with the bytes at its start.
  lent : (part : List ℕ) → part ≡ bs ++ drop n (take (length out - put) (drop put out)) → put_mid put (length out - put) out part ≡ wrote
  lent part e =
      let all : take (length out - put) (drop put out) ≡ drop put out = take_all (length out - put) (drop put out) (simp length-drop (omega arith)) in
      let none : drop (length out - put) (drop put out) ≡ [] = drop_of_length-le (drop put out) {i = length out - put} (simp length-drop (omega arith)) in
      simp (none, append-nil, e, all, drop-drop, append_assoc)

-- What is lent from `put` on has room for n bytes.
pub has_room : (out : List ℕ) (put n : ℕ) → n ≤ length out - put → n ≤ length (take (length out - put) (drop put out))
has_room out put n h = simp (length-take-le (length out - put) (drop put out) (simp length-drop (omega arith))) h

pub flatten_snoc : (rs : List (List ℕ)) (r : List ℕ) → length (flatten (rs ++ (r ∷ []))) ≡ length (flatten rs) + length r
unfolding flatten
flatten_snoc [] r = simp (append-nil) (omega arith)
flatten_snoc (s ∷ rs) r = simp (length-append, flatten_snoc rs r) (omega arith)

pub refused : (m : Module) (t : List ℕ) (room : ℕ) (p : Parsed) → OneOf (1 ∷ 2 ∷ []) (tag_of P.the_type p) → turn reader play m t room p ≡ stopped m (refusal_of p)
refused m t room (Record e n) (inl h) = absurd (omega arith)
refused m t room (Record e n) (inr h) = absurd (omega arith)
refused m t room Unknown h = refl
refused m t room Cut h = refl

-- ---- the invariant

-- The whole is what was played so far, whose answers stand at the start of `out`, and then the rest of the trace from here; the rest
-- of `out` is as it was.
pub record Going (t out₀ : List ℕ) (m₀ : Module) (out : List ℕ) (m : Module) (at put : ℕ) : Type 0 where
  pub done : Outcome
  pub inside : at ≤ length t
  pub within : put ≤ length out
  pub same : length out ≡ length out₀
  pub kept : drop put out ≡ drop put out₀
  pub read : at ≡ length (flatten done.records)
  pub written : put ≡ answer_length * length done.records
  pub answers : done.answers ≡ take put out
  pub going : play m₀ t (length out₀) ≡ followed done (play m (drop at t) (length out - put))

pub starts : (t out : List ℕ) (m : Module) → Going t out m out m 0 0
unfolding flatten
starts t out m =
    record {
      done = stopped m 0;
      inside = omega arith;
      within = omega arith;
      same = refl;
      kept = refl;
      read = refl;
      written = omega arith;
      answers = refl;
      going = ap (play m t) (omega arith);
    }

-- What is lent of the trace from a place on is the rest of it.
pub rest : (t : List ℕ) (at : ℕ) → take (length t - at) (drop at t) ≡ drop at t
rest t at = take_all (length t - at) (drop at t) (simp length-drop (omega arith))

module _ (t out₀ : List ℕ) (m₀ : Module) (out : List ℕ) (m : Module) (at put : ℕ) (g : Going t out₀ m₀ out m at put) where
  abbrev room : ℕ
  room = length out - put

  abbrev Left : Stop → Type 0
  Left why = Plays (play m₀ t (length out₀)) out₀ (record { state = m; read = at; written = put; stop = why }) out

  -- Nothing further is played.
  leaves : (why : Stop) → play m (drop at t) room ≡ stopped m (stop_number why) → Left why
  leaves why e =
      let all : play m₀ t (length out₀) ≡ followed g.done (stopped m (stop_number why)) = g.going ∙ ap (followed g.done) e in
      let answers : (play m₀ t (length out₀)).answers ≡ take put out = ap (λ (o : Outcome). o.answers) all ∙ append-nil g.done.answers ∙ g.answers in
      let records : (play m₀ t (length out₀)).records ≡ g.done.records = ap (λ (o : Outcome). o.records) all ∙ append-nil g.done.records in
      record {
        state = sym (ap (λ (o : Outcome). o.state) all);
        read = g.read ∙ sym (ap (λ (l : List (List ℕ)). length (flatten l)) records);
        written = g.written ∙ sym (ap (λ (l : List (List ℕ)). answer_length * length l) records);
        stop = sym (ap (λ (o : Outcome). o.stop) all);
        output =
            sym (ap (λ (l : List ℕ). l ++ drop put out₀) answers ∙ ap (λ (l : List ℕ). take put out ++ l) (sym g.kept) ∙ take-append-drop put out);
      }

  -- At the end of the trace.
  pub at_end_holds : (why : Stop) → length t ≤ at → stop_number why ≡ 0 → Left why
  at_end_holds why le is = leaves why (play_none reader m (drop at t) room (simp length-drop (omega arith)) ∙ ap (stopped m) (sym is))

  module _ (lt : at < length t) where
    some : 0 < length (drop at t)
    some = simp length-drop (omega arith)

    -- Before what is no record, or is cut.
    pub at_refusal : (p : Parsed) (why : Stop) → p ≡ parsed (take (length t - at) (drop at t)) → OneOf (1 ∷ 2 ∷ []) (tag_of P.the_type p)
        → stop_number why ≡ refusal_of p → Left why
    at_refusal p why is keys e =
        leaves why (unroll reader m (drop at t) room some ∙ ap (turn reader play m (drop at t) room) (sym (is ∙ ap parsed (rest t at)))
        ∙ refused m (drop at t) room p keys ∙ ap (stopped m) (sym e))

    module _ (p : Parsed) (e : Event) (n : ℕ) (is : p ≡ parsed (take (length t - at) (drop at t))) (whole : p ≡ Record e n) where
      here : parsed (drop at t) ≡ Record e n
      here = ap parsed (sym (rest t at)) ∙ sym is ∙ whole

      pub moves : (0 < n) × (at + n ≤ length t)
      moves = let w = record_within (drop at t) here in (w.0, omega (arith, w.1, length-drop at t))

      -- Before a record whose answer has no room.
      pub at_full : (why : Stop) → room < answer_length → stop_number why ≡ 7 → Left why
      at_full why full e =
          leaves why (unroll reader m (drop at t) room some ∙ ap (turn reader play m (drop at t) room) here ∙ simp (lt-ltb room answer_length full) (ap (stopped m) (sym e)))

      -- Before a hold that would pass 2^64 - 1 clocks.
      pub at_limit : (why : Stop) (s : Stepped) → answer_length ≤ room → s ≡ step m e → s.answer.refusal ≡ 10 → stop_number why ≡ 10 →
          Plays (play m₀ t (length out₀)) out₀ (record { state = s.state; read = at; written = put; stop = why }) out
      at_limit why s has is_step is-10 is-why =
          let refused-10 : (step m e).answer.refusal ≡ 10 = ap (λ (s : Stepped). s.answer.refusal) (sym is_step) ∙ is-10 in
          let over : limited m e ≡ true = eq-eqb (step m e).answer.refusal 10 refused-10 in
          let same : s.state ≡ m = ap (λ (s : Stepped). s.state) is_step ∙ limited_stays m e refused-10 in
          subst (λ (k : Module). Plays (play m₀ t (length out₀)) out₀ (record { state = k; read = at; written = put; stop = why }) out) (sym same)
          (leaves why (unroll reader m (drop at t) room some ∙ ap (turn reader play m (drop at t) room) here
          ∙ simp (le-ltb room answer_length has, over) (ap (stopped m) (sym is-why))))

      -- Past a record: its answer is written, and the trace goes on.
      pub goes_on : (s : Stepped) (part : List ℕ) → answer_length ≤ room → s ≡ step m e → (s.answer.refusal ≡ 10 → ⊥)
          → part ≡ answer_bytes s.answer ++ drop answer_length (take room (drop put out))
          → Going t out₀ m₀ (put_mid put room out part) s.state (at + n) (put + answer_length)
      goes_on s part has is_step not-10 wrote-is =
          let free : limited m e ≡ false = ne_eqb (step m e).answer.refusal 10 (λ z. not-10 (ap (λ (s : Stepped). s.answer.refusal) is_step ∙ z)) in
          let bs = answer_bytes s.answer in
          let r = take n (drop at t) in
          let w = record_within (drop at t) here in
          let one = answered s r in
          let fits : put + answer_length ≤ length out = omega (arith, g.within) in
          let left : length out - put - answer_length ≡ length out - (put + answer_length) = omega arith in
          let next : play m (drop at t) room ≡ followed one (play s.state (drop n (drop at t)) (room - answer_length)) =
          one_on reader m (drop at t) room e n here has free ∙ simp is_step in
          subst (λ (l : List ℕ). Going t out₀ m₀ l s.state (at + n) (put + answer_length)) (sym (lent out put bs answer_length refl fits part wrote-is))
          (record {
            done = followed g.done one;
            inside = moves.1;
            within = omega (arith, wrote_length out put bs answer_length refl fits);
            same = wrote_length out put bs answer_length refl fits ∙ g.same;
            kept = wrote_drop out put bs answer_length refl fits ∙ sym (drop-drop answer_length put out) ∙ ap (drop answer_length) g.kept ∙ drop-drop answer_length put out₀;
            read = omega (arith, g.read, flatten_snoc g.done.records r, length-take-le n (drop at t) w.1);
            written = omega (arith, g.written, length-append g.done.records (r ∷ []));
            answers = ap (λ (l : List ℕ). l ++ bs) g.answers ∙ sym (wrote_take out put bs answer_length refl fits);
            going =
                g.going ∙ ap (followed g.done) next ∙ sym (followed_assoc g.done one _)
                ∙ simp (wrote_length out put bs answer_length refl fits, left, drop-drop);
          })
