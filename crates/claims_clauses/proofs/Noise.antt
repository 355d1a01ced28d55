-- The noise figure of a frame is the sum over its samples. Assumes nothing.
use mathlib.Core.Path.{◌≡◌, refl, sym, ap, subst, ◌∙◌}
use mathlib.Core.Bool.{Bool, true, false, cond, not, ◌&&◌, true≢false, false≢true}
use mathlib.Core.List.{List, [], ◌∷◌}
use Prim.Native.Nat.{ℕ, ◌+◌, ◌%◌, ◌≤◌}
use native.Mathlib.Omega.{arith}
use native.Mathlib.Nat.{add_assoc}
use lib.Dec.{eqb}
use borrow.Author.Tests.{eqb-true, not-true}
use Rattle.sci.specs.model.Flags.{OR, RDRF}
use Rattle.sci.specs.claims.Members.{member}
use Rattle.sci.specs.model.Status.{has, raise_if}
use Rattle.sci.specs.model.Control.{M, bits_of}
use Rattle.sci.specs.model.Bits.{vote}
use Rattle.sci.specs.model.Framer.{begun, ends, frame_of, framed}
use Rattle.sci.specs.model.Receiver.{three, outcome, entered, status_after, receiver_after, received}
use Rattle.sci.specs.declared.framer.Framer.{Framer}
use Rattle.sci.specs.declared.framer.Frame.{Frame}
use Rattle.sci.specs.declared.receiver.Receiver.{Receiver}
use Rattle.sci.specs.declared.receiver.Outcome.{Outcome}
use Rattle.sci.specs.declared.receiver.Received.{Received}
use Rattle.sci.specs.declared.status.Status.{Status}
use Rattle.sci.proofs.Flagged.{is_set, has_flag, raise_keeps}
use Rattle.sci.proofs.Membership.{and_left, and_right}
use Rattle.sci.proofs.Samples.{status_set}
use Rattle.qsm.proofs.Booleans.{and_false, on, clash}
use Rattle.claims_clauses.specs.Starts.{hear, in_frame}
use Rattle.claims_clauses.specs.Noise.{disagree, start_gives, bit_gives, gives, given, stays, FrameNoise, NoiseClauses}
use Rattle.claims_clauses.proofs.Starts.{searches}
use Rattle.claims_clauses.proofs.Figure.{disagrees, disagree_small, Going, start, bits}
use Rattle.claims_clauses.proofs.Sums.{goes}

few : (c : ℕ) → bits_of (M c) ≤ 200
few c = small (M c)
  where
    small : (m : Bool) → bits_of m ≤ 200
    small true = omega arith
    small false = omega arith

-- A receiver in a frame, with the sum over its samples so far.
abbrev Sums : ℕ → Received → ℕ → Type 0
Sums c p sum = (in_frame p ≡ true) × Going (bits_of (M c)) p.receiver.framer p.receiver.last1 p.receiver.last2 sum

within_frame : (b : Bool) (k : ℕ) → b ≡ true → k ≡ cond b k 0
within_frame true k h = refl
within_frame false k h = absurd (false≢true h)

out_of_frame : (b : Bool) (k : ℕ) → b ≡ false → cond b k 0 ≡ 0
out_of_frame true k h = absurd (true≢false h)
out_of_frame false k h = refl

next : (c : ℕ) (p : Received) (x : Bool) (sum : ℕ) → Sums c p sum → in_frame (hear c (x ∷ []) p) ≡ true →
    Sums c (hear c (x ∷ []) p) (sum + gives p.receiver x)
unfolding received receiver_after
next c p x sum s h = (
  h,
  subst (λ (k : ℕ). Going (bits_of (M c)) (framed (bits_of (M c)) p.receiver.framer (three p.receiver) x) x p.receiver.last1 (sum + k))
      (within_frame p.receiver.framer.framing _ s.0)
      (goes (bits_of (M c)) (few c) p.receiver.framer p.receiver.last1 p.receiver.last2 (three p.receiver) x sum s.0 s.1 h),
)

run : (c : ℕ) (xs : List Bool) (p : Received) (sum : ℕ) → Sums c p sum → stays c xs p ≡ true → Sums c (hear c xs p) (sum + given c xs p)
run c [] p sum s h = let same : sum + 0 ≡ sum = omega arith in rw same s
run c (x ∷ xs) p sum s h =
    let now : Sums c (hear c (x ∷ []) p) (sum + gives p.receiver x) = next c p x sum s (and_left (in_frame (hear c (x ∷ []) p)) _ h) in
    let rest = run c xs (hear c (x ∷ []) p) (sum + gives p.receiver x) now (and_right (in_frame (hear c (x ∷ []) p)) _ h) in
    rw add_assoc at rest

-- ---- the first sample

begun_here : (t y : Bool) (f : Framer) (n : ℕ) → f.framing ≡ false → (cond (t && not y) (begun n) f).framing ≡ true →
    cond (t && not y) (begun n) f ≡ begun n
begun_here true true f n h g = clash f.framing h g
begun_here true false f n h g = refl
begun_here false y f n h g = clash f.framing h g

at_first : (n : ℕ) (l1 l2 : Bool) → Going n (begun n) l1 l2 0
at_first n l1 l2 = start refl (record { low = omega arith; high = omega arith; left = refl; so_far = refl; bound = omega arith })

first : (c : ℕ) (p : Received) (y : Bool) → in_frame p ≡ false → in_frame (hear c (y ∷ []) p) ≡ true → Sums c (hear c (y ∷ []) p) 0
unfolding received receiver_after
first c p y h g =
    let is = searches (bits_of (M c)) p.receiver.framer (three p.receiver) y h in
    let framing = sym (ap (λ (f : Framer). f.framing) is) ∙ g in (
      g,
      subst (λ (f : Framer). Going (bits_of (M c)) f y p.receiver.last1 0)
          (sym (is ∙ begun_here (three p.receiver) y p.receiver.framer (bits_of (M c)) h framing))
          (at_first (bits_of (M c)) y p.receiver.last1),
    )

-- ---- the last one

entered_no : (b : Bool) (s : Status) (f : Frame) (bad : Bool) → b ≡ false → entered b s f bad ≡ s
unfolding entered
entered_no true s f bad e = absurd (true≢false e)
entered_no false s f bad e = refl

rdrf_kept : (s : Status) (o : Outcome) (f : Frame) (bad idles : Bool) → o.taken && not o.lost ≡ false →
    has (status_after s o f bad idles) RDRF ≡ has s RDRF
unfolding member
rdrf_kept s o f bad idles e =
    has_flag 6 (status_after s o f bad idles)
    ∙ status_set 6 s o f bad idles refl (and_false idles)
    ∙ ap (is_set 6) (entered_no (o.taken && not o.lost) (raise_if o.lost s OR) f bad e)
    ∙ raise_keeps 6 o.lost s OR refl
    ∙ sym (has_flag 6 s)

-- RDRF rises only with a frame that enters SCDR.
enters : (c : ℕ) (r : Receiver) (s : Status) (x : Bool) → has s RDRF ≡ false → has (received r s c x).status RDRF ≡ true →
    (outcome r s c x).taken && not (outcome r s c x).lost ≡ true
unfolding received
enters c r s x clear set =
    on ((outcome r s c x).taken && not (outcome r s c x).lost) (λ e. e)
    (λ e. clash (has s RDRF) clear (sym (rdrf_kept s (outcome r s c x) _ _ _ e) ∙ set))

taken_ends : (c : ℕ) (r : Receiver) (s : Status) (x : Bool) → (outcome r s c x).taken ≡ true → ends r.framer ≡ true
unfolding outcome
taken_ends c r s x h = and_left (ends r.framer) _ h

-- What a framer that ends a frame brings.
module _ (n : ℕ) (small : n ≤ 200) (f : Framer) (l1 l2 x : Bool) (sum : ℕ) (end : ends f ≡ true) where
  rt_9 : f.rt ≡ 9
  rt_9 = eqb-true f.rt 9 (and_right (f.framing && not f.starting && eqb f.left 0) _ end)

  left_0 : f.left ≡ 0
  left_0 =
      eqb-true f.left 0
      (and_right (f.framing && not f.starting) _ (and_left (f.framing && not f.starting && eqb f.left 0) _ end))

  past_start : f.starting ≡ false
  past_start =
      not-true f.starting
      (and_right f.framing _ (and_left (f.framing && not f.starting) _ (and_left (f.framing && not f.starting && eqb f.left 0) _ end)))

  brings : Going n f l1 l2 sum → ((frame_of f x).noise ≡ sum + disagree l2 l1 x) × ((frame_of f x).noise ≤ n + 5)
  brings (start s i) = clash f.starting past_start s
  brings (bits s i) =
      let both = i.at_9 rt_9 in
      let said : (vote f.first f.second x).disagreed ≡ disagree l2 l1 x =
      disagrees f.first f.second x ∙ rw (both.0, both.1) in
      let room : f.noise ≤ n + 4 = omega (arith, rw (rt_9, left_0) at i.bound) in
      rw said
      (omega (arith, i.so_far, disagree_small l2 l1 x), omega (arith, disagree_small l2 l1 x))

-- ---- the law

gives_last : (framing starting : Bool) (rt : ℕ) (a b x : Bool) → framing ≡ true → starting ≡ false → rt ≡ 9 →
    cond framing (cond starting (start_gives (rt % 16 + 1) x) (bit_gives (rt % 16 + 1) a b x)) 0 ≡ disagree a b x
gives_last framing starting rt a b x f s r = rw (f, s, r)

kept : (b : Bool) (u v : ℕ) → b ≡ true → cond b u v ≡ u
kept true u v h = refl
kept false u v h = absurd (false≢true h)

entering : (c : ℕ) (q : Received) (x : Bool) → (outcome q.receiver q.status c x).taken && not (outcome q.receiver q.status c x).lost ≡ true →
    (hear c (x ∷ []) q).receiver.noise ≡ (frame_of q.receiver.framer x).noise
unfolding received receiver_after
entering c q x e = kept ((outcome q.receiver q.status c x).taken && not (outcome q.receiver q.status c x).lost) _ _ e

ending : (c : ℕ) (q : Received) (x : Bool) (sum : ℕ) → Sums c q sum →
    has q.status RDRF ≡ false → has (hear c (x ∷ []) q).status RDRF ≡ true →
    ((hear c (x ∷ []) q).receiver.noise ≡ sum + gives q.receiver x) × ((hear c (x ∷ []) q).receiver.noise ≤ bits_of (M c) + 5)
ending c q x sum s clear set =
    let e = enters c q.receiver q.status x clear set in
    let end : ends q.receiver.framer ≡ true =
    taken_ends c q.receiver q.status x (and_left (outcome q.receiver q.status c x).taken _ e) in
    let r : Receiver = q.receiver in
    let brought : ((frame_of r.framer x).noise ≡ sum + disagree r.last2 r.last1 x) × ((frame_of r.framer x).noise ≤ bits_of (M c) + 5) =
    brings (bits_of (M c)) (few c) r.framer r.last1 r.last2 x sum end s.1 in
    let gave : gives r x ≡ disagree r.last2 r.last1 x =
    gives_last r.framer.framing r.framer.starting r.framer.rt r.last2 r.last1 x s.0
    (past_start (bits_of (M c)) (few c) r.framer r.last1 r.last2 x sum end)
    (rt_9 (bits_of (M c)) (few c) r.framer r.last1 r.last2 x sum end) in
    (entering c q x e ∙ brought.0 ∙ ap (λ (k : ℕ). sum + k) (sym gave), rw (entering c q x e) brought.1)

frame : (c : ℕ) (p : Received) (y : Bool) (xs : List Bool) (x : Bool) → in_frame p ≡ false → stays c (y ∷ xs) p ≡ true →
    has (hear c (y ∷ xs) p).status RDRF ≡ false → has (hear c (x ∷ []) (hear c (y ∷ xs) p)).status RDRF ≡ true →
    FrameNoise c p y xs x
frame c p y xs x h st clear set =
    let at_1 : Sums c (hear c (y ∷ []) p) 0 = first c p y h (and_left (in_frame (hear c (y ∷ []) p)) _ st) in
    let all : Sums c (hear c (y ∷ xs) p) (0 + given c xs (hear c (y ∷ []) p)) =
    run c xs (hear c (y ∷ []) p) 0 at_1 (and_right (in_frame (hear c (y ∷ []) p)) _ st) in
    let none : gives p.receiver y ≡ 0 = out_of_frame p.receiver.framer.framing _ h in
    let told = ending c (hear c (y ∷ xs) p) x (0 + given c xs (hear c (y ∷ []) p)) all clear set in
    record {
      figure = told.0 ∙ ap (λ (k : ℕ). k + given c xs (hear c (y ∷ []) p) + gives (hear c (y ∷ xs) p).receiver x) (sym none);
      bound = told.1;
    }

pub noise_clauses : NoiseClauses
noise_clauses = record { frame = frame }
