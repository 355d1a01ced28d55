-- The clauses on a sample of the receiver, from its definition: a sample's outcome told by before and after, then flag by flag.
-- Assumes nothing.
use mathlib.Core.Path.{◌≡◌, refl, ap, sym, ◌∙◌}
use mathlib.Core.Bool.{Bool, true, false, cond, not, ◌&&◌, ◌||◌, beq, and-true, and-false, and_comm, or_comm, false≢true}
use Prim.Native.Nat.{ℕ, zero, suc, ◌+◌, ◌-◌, ◌*◌, ◌/◌, ◌^◌, ◌%◌, ◌≤◌, ◌<◌, min}
use native.Mathlib.Omega.{arith}
use lib.Count.{ones}
use lib.Dec.{eqb}
use Rattle.steps.specs.Bits.{digit}
use Rattle.sci.specs.model.Flags.{PF, FE, OR, IDLE, RAF, RDRF, receive_flags}
use Rattle.sci.specs.claims.Members.{member}
use Rattle.sci.specs.model.Status.{has}
use Rattle.sci.specs.model.Control.{ILT, PT, PE, M, WAKE, bits_of, frame_samples}
use Rattle.sci.specs.model.Bits.{parity_bit}
use Rattle.sci.specs.model.Framer.{ends, frame_of, collected, framed}
use Rattle.sci.specs.model.Receiver.{three, addressed, outcome, status_after, receiver_after, received}
use Rattle.sci.specs.claims.ReceiverClauses.{start_begins, start_abandoned, frame_ends, idle_reached, rises, last_bit, frame_taken, read_one, SampleClauses, ReceiverClauses}
use Rattle.sci.specs.declared.status.Status.{Status}
use Rattle.sci.specs.declared.framer.Framer.{Framer}
use Rattle.sci.specs.declared.receiver.Receiver.{Receiver}
use Rattle.sci.specs.declared.receiver.Outcome.{Outcome}
use Rattle.sci.proofs.Votes.{by_ones}
use Rattle.sci.proofs.Flagged.{is_set, has_flag}
use Rattle.sci.proofs.Sending.{low_at}
use Rattle.sci.proofs.Samples.{stays_awake, count_zero}
use Rattle.sci.proofs.Turns.{Turned, turned, data_bit_holds}
use Rattle.sci.proofs.Rising.{none_after, raf_after, idle_after, rdrf_after, or_after, fe_after, pf_after}
use Rattle.sci.proofs.IdleCount.{reached_is, ones_counted}

some_bits : (m : Bool) → bits_of m - 1 < bits_of m
some_bits true = omega arith
some_bits false = omega arith

-- Parity by the number of ones.
parity_is : (pt : Bool) (d : ℕ) → d < 2 → not (beq (eqb d 1) pt) ≡ not (eqb d (digit pt))
parity_is true zero h = refl
parity_is true (suc zero) h = refl
parity_is false zero h = refl
parity_is false (suc zero) h = refl
parity_is pt (suc (suc d)) h = absurd (omega arith)

collects : (b : Bool) (n w : ℕ) → collected b n w ≡ w / 2 + digit b * 2 ^ (n - 1)
collects true n w = omega arith
collects false n w = omega arith

-- Of a frame taken (T) with RDRF (R) and OR (O): what enters, what is lost.
rdrf_of_holds : (T R O : Bool) → R || (T && not (T && (R || O))) ≡ R || (T && not O)
rdrf_of_holds true true O = refl
rdrf_of_holds true false O = refl
rdrf_of_holds false R O = refl

or_of : (T R O : Bool) → O || (T && (R || O)) ≡ O || (T && R)
or_of T R true = refl
or_of true true false = refl
or_of true false false = refl
or_of false R false = refl

enters_of : (T R O : Bool) → not R && (R || (T && not (T && (R || O)))) ≡ T && not (T && (R || O))
enters_of true true O = refl
enters_of true false O = refl
enters_of false true O = refl
enters_of false false O = refl

-- Asleep, with WAKE (W), a frame's end (E), its last bit (A) and the idle count at its limit (R): asleep still, or WAKE=0.
taken_not : (E W A R : Bool) → (not (E && (W && A)) && not (R && not W)) || not W ≡ true → E && (W && A) ≡ false
taken_not true true true R e = absurd (false≢true e)
taken_not true true false R e = refl
taken_not true false A R e = refl
taken_not false W A R e = refl

in_order : (f a b c y : Bool) → f && (a && b && c) && y ≡ f && a && b && c && y
in_order true a b c y = refl
in_order false a b c y = refl

module _ (c : ℕ) (r : Receiver) (s : Status) (x : Bool) (h : r.framer.rt ≤ 16) where
  abbrev n : ℕ
  n = bits_of (M c)

  abbrev f : Framer
  f = r.framer

  abbrev o : Outcome
  o = outcome r s c x

  abbrev q : Receiver
  q = (received r s c x).receiver

  abbrev t : Status
  t = (received r s c x).status

  abbrev bad : Bool
  bad = PE c && parity_bit (PT c) f.shift

  abbrev idles : Bool
  idles = o.reached && not r.asleep && r.since

  turn : Turned f (three r) x (framed n f (three r) x)
  turn = turned n f (three r) x h

  status_is : t ≡ status_after s o (frame_of f x) bad idles
  unfolding received
  status_is = refl

  begun_is : o.begun ≡ start_begins r q
  unfolding received receiver_after outcome
  begun_is = turn.begun

  abandoned_is : o.abandoned ≡ start_abandoned r q
  unfolding received receiver_after outcome
  abandoned_is = turn.abandoned

  ends_is : ends f ≡ frame_ends r q
  unfolding received receiver_after
  ends_is = turn.ended

  reached : o.reached ≡ idle_reached n r q
  unfolding received receiver_after outcome
  reached = reached_is o.counted r.idle (frame_samples n) (omega arith)

  last_is : addressed n f.shift ≡ last_bit n f.shift
  last_is = sym (low_at n f.shift (n - 1) (some_bits (M c)))

  taken_is : o.taken ≡ frame_taken c r q
  unfolding outcome
  taken_is = rw (ends_is, last_is)

  -- The flags, in one place.
  flag_is : (k : ℕ) → is_set k t ≡ is_set k (status_after s o (frame_of f x) bad idles)
  flag_is k = ap (is_set k) status_is

  starts : start_begins r q ≡ not f.framing && r.last1 && r.last2 && r.last3 && not x
  unfolding outcome
  starts = sym begun_is ∙ in_order (not f.framing) r.last1 r.last2 r.last3 (not x)

  raf : has t RAF ≡ (has s RAF || start_begins r q) && not (start_abandoned r q || idle_reached n r q)
  raf = has_flag 5 t ∙ flag_is 5 ∙ raf_after s o (frame_of f x) bad idles ∙ rw (begun_is, abandoned_is, reached, has_flag 5 s)

  end_resets : ILT c ≡ true → frame_ends r q ≡ true → q.idle ≡ 0
  unfolding received receiver_after outcome
  end_resets i e =
      let z : ends f ≡ true = ends_is ∙ e in
      rw (i, z, and-false)

  one_counts : x ≡ true → ILT c && frame_ends r q ≡ false → q.idle ≡ min (frame_samples n) (suc r.idle)
  unfolding received receiver_after outcome
  one_counts e i =
      let z : ends f && ILT c ≡ false = ap (λ (b : Bool). b && ILT c) ends_is ∙ and_comm (frame_ends r q) (ILT c) ∙ i in
      rw (e, z) (omega arith)

  idle : has t IDLE ≡ has s IDLE || (idle_reached n r q && not r.asleep && r.since)
  idle = has_flag 4 t ∙ flag_is 4 ∙ idle_after s o (frame_of f x) bad idles ∙ rw (reached, has_flag 4 s)

  set_rdrf : has t RDRF ≡ has s RDRF || (o.taken && not o.lost)
  set_rdrf = has_flag 6 t ∙ flag_is 6 ∙ rdrf_after s o (frame_of f x) bad idles ∙ rw (has_flag 6 s)

  rdrf : has t RDRF ≡ has s RDRF || (frame_taken c r q && not (has s OR))
  unfolding outcome
  rdrf = set_rdrf ∙ rdrf_of_holds o.taken (has s RDRF) (has s OR) ∙ ap (λ (b : Bool). has s RDRF || (b && not (has s OR))) taken_is

  or : has t OR ≡ has s OR || (frame_taken c r q && has s RDRF)
  unfolding outcome
  or =
      has_flag 3 t ∙ flag_is 3 ∙ or_after s o (frame_of f x) bad idles ∙ ap (λ (b : Bool). b || o.lost) (sym (has_flag 3 s))
      ∙ or_of o.taken (has s RDRF) (has s OR) ∙ ap (λ (b : Bool). has s OR || (b && has s RDRF)) taken_is

  -- RDRF rises where a frame enters SCDR.
  enters : rises (has s RDRF) (has t RDRF) ≡ o.taken && not o.lost
  unfolding outcome
  enters = ap (λ (b : Bool). not (has s RDRF) && b) set_rdrf ∙ enters_of o.taken (has s RDRF) (has s OR)

  since : q.since ≡ not (idle_reached n r q) && (r.since || rises (has s RDRF) (has t RDRF))
  unfolding received receiver_after
  since = rw (← reached, enters, or_comm r.since (o.taken && not o.lost))

  scdr : q.scdr ≡ cond (rises (has s RDRF) (has t RDRF)) f.shift r.scdr
  unfolding received receiver_after
  scdr = rw enters

  pf : has t PF ≡ has s PF || (rises (has s RDRF) (has t RDRF) && PE c && not (eqb (ones q.scdr % 2) (digit (PT c))))
  pf =
      has_flag 0 t ∙ flag_is 0 ∙ pf_after s o (frame_of f x) bad idles
      ∙ rw (has_flag 0 s, scdr, enters) (ap (λ (b : Bool). is_set 0 s || b) (go (o.taken && not o.lost)))
    where
      go : (b : Bool) → b && (PE c && parity_bit (PT c) f.shift)
          ≡ b && PE c && not (eqb (ones (cond b f.shift r.scdr) % 2) (digit (PT c)))
      go true = ap (λ (b : Bool). PE c && b) (parity_is (PT c) (ones f.shift % 2) (omega arith))
      go false = refl

  fe : has t FE ≡ has s FE || (rises (has s RDRF) (has t RDRF) && not (read_one r x))
  fe =
      has_flag 1 t ∙ flag_is 1 ∙ fe_after s o (frame_of f x) bad idles
      ∙ rw (has_flag 1 s, enters)
      (ap (λ (b : Bool). is_set 1 s || (o.taken && not o.lost && not b)) (by_ones f.first f.second x))

  reads : f.framing ≡ true → f.starting ≡ false → 0 < f.left → f.rt ≡ 9 →
      q.framer.shift ≡ f.shift / 2 + digit (read_one r x) * 2 ^ (n - 1)
  unfolding received receiver_after
  reads e u l z =
      data_bit_holds n f (three r) x e u l z ∙ ap (λ (b : Bool). collected b n f.shift) (by_ones f.first f.second x)
      ∙ collects (read_one r x) n f.shift

  wakes_idle_holds : r.asleep ≡ true → WAKE c ≡ false → q.asleep ≡ not (idle_reached n r q)
  unfolding received receiver_after outcome
  wakes_idle_holds a w = rw (a, w, ← reached, and-false) (simp and-true)

  wakes_frame_holds : r.asleep ≡ true → WAKE c ≡ true → q.asleep ≡ not (frame_ends r q && last_bit n f.shift)
  unfolding received receiver_after outcome
  wakes_frame_holds a w = rw (a, w, ← ends_is, ← last_is) (simp (and-true, and-false))

  -- Asleep and not woken by a frame nothing is taken.
  none_taken : r.asleep ≡ true → q.asleep || not (WAKE c) ≡ true → o.taken ≡ false
  unfolding received receiver_after outcome
  none_taken a e = rw a (taken_not (ends f) (WAKE c) (addressed n f.shift) o.reached (rw a at e))

  silent : r.asleep ≡ true → q.asleep || not (WAKE c) ≡ true → (k : ℕ) → member k receive_flags ≡ true →
      member k t.flags ≡ member k s.flags
  unfolding outcome
  silent a e k m =
      let none : o.taken ≡ false = none_taken a e in
      let still : idles ≡ false = rw (a, and-false) in
      let unlost : o.lost ≡ false = rw none in
      flag_is k ∙ ap (λ (b : Bool). is_set k (status_after s o (frame_of f x) bad b)) still
      ∙ none_after k m s o (frame_of f x) bad none unlost

  clauses : SampleClauses c r s x
  unfolding received receiver_after
  clauses =
      record {
        starts = starts;
        raf = raf;
        zero = count_zero r s c x;
        ended = end_resets;
        one = one_counts;
        idle = idle;
        since = since;
        rdrf = rdrf;
        or = or;
        scdr = scdr;
        pf = pf;
        fe = fe;
        reads = reads;
        wakes_idle = wakes_idle_holds;
        wakes_frame = wakes_frame_holds;
        awake = stays_awake r s c x;
        silent = silent;
        within = turn.within;
      }

pub receiver_clauses : ReceiverClauses
receiver_clauses = record { start = λ r. omega arith; samples = clauses; idle_count = ones_counted }
