-- Two modules clock by clock are their two serial halves clock by clock.
use mathlib.Core.Path.{◌≡◌, refl, ap, sym, subst, ◌∙◌}
use mathlib.Core.Bool.{Bool, true, false, cond}
use mathlib.Core.List.{List, [], ◌∷◌, ◌++◌}
use Prim.Native.Nat.{ℕ, zero, suc, ◌+◌, ◌<◌, ◌≤◌}
use native.Mathlib.Omega.{arith}
use Rattle.sci.specs.model.Serial.{clocked, txd_driven, txd}
use Rattle.sci.specs.claims.History as half
use Rattle.sci.specs.claims.Wire.{Wired, Access, steps, step}
use Rattle.sci.specs.claims.Wire as wire
use Rattle.sci.specs.declared.serial.Sci.{Sci}
use Rattle.sci.proofs.History.{clocks}
use Rattle.qsm.specs.model.Event.{passes}
use Rattle.qsm.specs.declared.state.Module.{Module}
use Rattle.qsm.specs.declared.event.Access as bus
use Rattle.qsm.specs.declared.event.Event.TheVariants.{Hold}
use Rattle.qsm.specs.declared.event.Event.TheVariants as event
use Rattle.claims_histories.specs.History.{after}
use Rattle.claims_histories.specs.Demand2.{Two, halves, wire_level, Tick, Moment, clock, at_sender, at_receiver, next, play, clocks_in, Counts, SameSettings, SameReception, Unchanged, Rests}
use Rattle.claims_histories.proofs.Follows as follow
use Rattle.claims_histories.proofs.Pin.{wire_driven, wire_rests}
use Rattle.claims_histories.proofs.Given.{accessed_all, makes, access_half}
use Rattle.claims_histories.proofs.OnWire.{sender_kept, receiver_kept, joined, at_s, at_r, sender_steps, receiver_steps, sender_unchanged, receiver_unchanged, sender_rests_holds, receiver_rests_holds, sender_clocks, receiver_clocks, rests_sender, rests_receiver}

pub hold_half : (pins : ℕ) (x : Bool) (m : Module) → passes m 1 ≡ false → (after (Hold pins x 1) m).sci ≡ clocked m.sci x
unfolding half.run half.step
hold_half pins x m h =
    follow.follows (Hold pins x 1) m ∙ ap (λ (b : Bool). half.run (clocks (cond b 0 1) x) m.sci) h

-- The wire is TXD before each clock.
abbrev pub Plain : List Moment → Two → Type 0
Plain [] q = Unit {0}
Plain (clock t ∷ es) q = (wire_level q.sender t.undriven ≡ txd q.sender.sci) × Plain es (next (clock t) q)
Plain (at_sender a ∷ es) q = Plain es (next (at_sender a) q)
Plain (at_receiver a ∷ es) q = Plain es (next (at_receiver a) q)

abbrev pub project : List Moment → Two → List wire.Step
project [] q = []
project (clock t ∷ es) q = wire.clock t.rxd ∷ project es (next (clock t) q)
project (at_sender a ∷ es) q = at_s (makes a q.sender) (project es (next (at_sender a) q))
project (at_receiver a ∷ es) q = at_r (makes a q.receiver) (project es (next (at_receiver a) q))

pub clock_halves : (t : Tick) (q : Two) → Counts q → wire_level q.sender t.undriven ≡ txd q.sender.sci →
    step (wire.clock t.rxd) (halves q) ≡ halves (next (clock t) q)
unfolding step next
clock_halves t q counts e =
    ap (λ (s : Sci). joined s (clocked q.receiver.sci (txd q.sender.sci))) (sym (hold_half t.pins t.rxd q.sender counts.0))
    ∙ ap (λ (x : Bool). joined (after (Hold t.pins t.rxd 1) q.sender).sci (clocked q.receiver.sci x)) (sym e)
    ∙ ap (joined (after (Hold t.pins t.rxd 1) q.sender).sci)
    (sym (hold_half t.pins' (wire_level q.sender t.undriven) q.receiver counts.1))

sender_halves : (a : bus.Access) (q : Two) → SameSettings q.sender (after (event.Access a) q.sender) →
    joined (accessed_all (makes a q.sender) q.sender.sci) q.receiver.sci ≡ halves (next (at_sender a) q)
unfolding next
sender_halves a q h = ap (λ (s : Sci). joined s q.receiver.sci) (access_half a q.sender h)

receiver_halves : (a : bus.Access) (q : Two) → SameReception q.receiver (after (event.Access a) q.receiver) →
    joined q.sender.sci (accessed_all (makes a q.receiver) q.receiver.sci) ≡ halves (next (at_receiver a) q)
unfolding next
receiver_halves a q h = ap (joined q.sender.sci) (access_half a q.receiver h.same)

pub project_steps : (es : List Moment) (q : Two) → Unchanged es q → Plain es q →
    steps (project es q) (halves q) ≡ halves (play es q)
unfolding steps play
project_steps [] q u p = refl
project_steps (clock t ∷ es) q u p =
    ap (steps (project es (next (clock t) q))) (clock_halves t q u.0 p.0) ∙ project_steps es (next (clock t) q) u.1 p.1
project_steps (at_sender a ∷ es) q u p =
    sender_steps (makes a q.sender) (project es (next (at_sender a) q)) q.sender.sci q.receiver.sci
    ∙ ap (steps (project es (next (at_sender a) q))) (sender_halves a q u.0) ∙ project_steps es (next (at_sender a) q) u.1 p
project_steps (at_receiver a ∷ es) q u p =
    receiver_steps (makes a q.receiver) (project es (next (at_receiver a) q)) q.sender.sci q.receiver.sci
    ∙ ap (steps (project es (next (at_receiver a) q))) (receiver_halves a q u.0)
    ∙ project_steps es (next (at_receiver a) q) u.1 p

pub project_unchanged : (es : List Moment) (q : Two) → Unchanged es q → Plain es q → wire.Unchanged (project es q) (halves q)
unfolding wire.Unchanged
project_unchanged [] q u p = tt
project_unchanged (clock t ∷ es) q u p =
    subst (wire.Unchanged (project es (next (clock t) q))) (sym (clock_halves t q u.0 p.0))
    (project_unchanged es (next (clock t) q) u.1 p.1)
project_unchanged (at_sender a ∷ es) q u p =
    sender_unchanged (makes a q.sender) (project es (next (at_sender a) q)) q.sender.sci q.receiver.sci
    (sender_kept a q.sender u.0)
    (subst (wire.Unchanged (project es (next (at_sender a) q))) (sym (sender_halves a q u.0))
    (project_unchanged es (next (at_sender a) q) u.1 p))
project_unchanged (at_receiver a ∷ es) q u p =
    receiver_unchanged (makes a q.receiver) (project es (next (at_receiver a) q)) q.sender.sci q.receiver.sci
    (receiver_kept a q.receiver u.0)
    (subst (wire.Unchanged (project es (next (at_receiver a) q))) (sym (receiver_halves a q u.0))
    (project_unchanged es (next (at_receiver a) q) u.1 p))

pub project_rests : (es : List Moment) (q : Two) → Unchanged es q → Plain es q → Rests es q →
    wire.Rests (project es q) (halves q)
unfolding wire.Rests
project_rests [] q u p r = tt
project_rests (clock t ∷ es) q u p r = (
  sym p.0 ∙ r.0,
  subst (wire.Rests (project es (next (clock t) q))) (sym (clock_halves t q u.0 p.0))
      (project_rests es (next (clock t) q) u.1 p.1 r.1),
)
project_rests (at_sender a ∷ es) q u p r =
    sender_rests_holds (makes a q.sender) (project es (next (at_sender a) q)) q.sender.sci q.receiver.sci
    (subst (wire.Rests (project es (next (at_sender a) q))) (sym (sender_halves a q u.0))
    (project_rests es (next (at_sender a) q) u.1 p r))
project_rests (at_receiver a ∷ es) q u p r =
    receiver_rests_holds (makes a q.receiver) (project es (next (at_receiver a) q)) q.sender.sci q.receiver.sci
    (subst (wire.Rests (project es (next (at_receiver a) q))) (sym (receiver_halves a q u.0))
    (project_rests es (next (at_receiver a) q) u.1 p r))

pub project_clocks : (es : List Moment) (q : Two) → wire.clocks_in (project es q) ≡ clocks_in es
unfolding wire.clocks_in
project_clocks [] q = refl
project_clocks (clock t ∷ es) q = ap (λ (n : ℕ). suc n) (project_clocks es (next (clock t) q))
project_clocks (at_sender a ∷ es) q =
    sender_clocks (makes a q.sender) (project es (next (at_sender a) q)) ∙ project_clocks es (next (at_sender a) q)
project_clocks (at_receiver a ∷ es) q =
    receiver_clocks (makes a q.receiver) (project es (next (at_receiver a) q)) ∙ project_clocks es (next (at_receiver a) q)

-- At rest, and while a frame drives it.
pub rests_plain : (es : List Moment) (q : Two) → Rests es q → Plain es q
rests_plain [] q r = tt
rests_plain (clock t ∷ es) q r = (wire_rests q.sender t.undriven r.0, rests_plain es (next (clock t) q) r.1)
rests_plain (at_sender a ∷ es) q r = rests_plain es (next (at_sender a) q) r
rests_plain (at_receiver a ∷ es) q r = rests_plain es (next (at_receiver a) q) r

abbrev pub Drives : ℕ → Wired → Type 0
Drives n q = (fs : List wire.Step) → wire.clocks_in fs < n → txd_driven (steps fs q).sender ≡ true

clock_drives : (n : ℕ) (x : Bool) (q r : Wired) → step (wire.clock x) q ≡ r → Drives (suc n) q → Drives n r
unfolding steps wire.clocks_in
clock_drives n x q r e d fs h =
    subst (λ (w : Wired). txd_driven (steps fs w).sender ≡ true) e (d (wire.clock x ∷ fs) (omega (arith, h)))

sender_drives : (n : ℕ) (ks : List Access) (s r : Sci) (q : Wired) → joined (accessed_all ks s) r ≡ q → Drives n (joined s r) → Drives n q
sender_drives n ks s r q e d fs h =
    subst (λ (w : Wired). txd_driven (steps fs w).sender ≡ true) e
    (subst (λ (w : Wired). txd_driven w.sender ≡ true) (sender_steps ks fs s r)
    (d (at_s ks fs) (subst (λ (k : ℕ). k < n) (sym (sender_clocks ks fs)) h)))

receiver_drives : (n : ℕ) (ks : List Access) (s r : Sci) (q : Wired) → joined s (accessed_all ks r) ≡ q → Drives n (joined s r) → Drives n q
receiver_drives n ks s r q e d fs h =
    subst (λ (w : Wired). txd_driven (steps fs w).sender ≡ true) e
    (subst (λ (w : Wired). txd_driven w.sender ≡ true) (receiver_steps ks fs s r)
    (d (at_r ks fs) (subst (λ (k : ℕ). k < n) (sym (receiver_clocks ks fs)) h)))

driven_now : (n : ℕ) (q : Wired) → Drives (suc n) q → txd_driven q.sender ≡ true
unfolding steps wire.clocks_in
driven_now n q d = d [] (omega arith)

pub drives_plain : (es : List Moment) (q : Two) (n : ℕ) → Drives n (halves q) → clocks_in es ≤ n → Unchanged es q → Plain es q
drives_plain [] q n d l u = tt
drives_plain (clock t ∷ es) q zero d l u = absurd (omega (arith, l))
drives_plain (clock t ∷ es) q (suc n) d l u =
    let e : wire_level q.sender t.undriven ≡ txd q.sender.sci =
    wire_driven q.sender t.undriven (driven_now n (halves q) d) in (
      e,
      drives_plain es (next (clock t) q) n (clock_drives n t.rxd (halves q) (halves (next (clock t) q)) (clock_halves t q u.0 e) d)
          (omega (arith, l)) u.1,
    )
drives_plain (at_sender a ∷ es) q n d l u =
    drives_plain es (next (at_sender a) q) n
    (sender_drives n (makes a q.sender) q.sender.sci q.receiver.sci (halves (next (at_sender a) q)) (sender_halves a q u.0) d)
    l u.1
drives_plain (at_receiver a ∷ es) q n d l u =
    drives_plain es (next (at_receiver a) q) n
    (receiver_drives n (makes a q.receiver) q.sender.sci q.receiver.sci (halves (next (at_receiver a) q))
    (receiver_halves a q u.0) d)
    l u.1

-- The wire rests where TXD does.
pub rests_project : (es : List Moment) (q : Two) → Unchanged es q → Plain es q → wire.Rests (project es q) (halves q) → Rests es q
unfolding wire.Rests
rests_project [] q u p r = tt
rests_project (clock t ∷ es) q u p r = (
  p.0 ∙ r.0,
  rests_project es (next (clock t) q) u.1 p.1
      (subst (wire.Rests (project es (next (clock t) q))) (clock_halves t q u.0 p.0) r.1),
)
rests_project (at_sender a ∷ es) q u p r =
    rests_project es (next (at_sender a) q) u.1 p
    (subst (wire.Rests (project es (next (at_sender a) q))) (sender_halves a q u.0)
    (rests_sender (makes a q.sender) (project es (next (at_sender a) q)) q.sender.sci q.receiver.sci r))
rests_project (at_receiver a ∷ es) q u p r =
    rests_project es (next (at_receiver a) q) u.1 p
    (subst (wire.Rests (project es (next (at_receiver a) q))) (receiver_halves a q u.0)
    (rests_receiver (makes a q.receiver) (project es (next (at_receiver a) q)) q.sender.sci q.receiver.sci r))

-- One list after another.
pub unchanged_append : (es ds : List Moment) (q : Two) → Unchanged es q → Unchanged ds (play es q) → Unchanged (es ++ ds) q
unfolding play
unchanged_append [] ds q u v = v
unchanged_append (clock t ∷ es) ds q u v = (u.0, unchanged_append es ds (next (clock t) q) u.1 v)
unchanged_append (at_sender a ∷ es) ds q u v = (u.0, unchanged_append es ds (next (at_sender a) q) u.1 v)
unchanged_append (at_receiver a ∷ es) ds q u v = (u.0, unchanged_append es ds (next (at_receiver a) q) u.1 v)

pub plain_first : (es ds : List Moment) (q : Two) → Plain (es ++ ds) q → Plain es q
plain_first [] ds q p = tt
plain_first (clock t ∷ es) ds q p = (p.0, plain_first es ds (next (clock t) q) p.1)
plain_first (at_sender a ∷ es) ds q p = plain_first es ds (next (at_sender a) q) p
plain_first (at_receiver a ∷ es) ds q p = plain_first es ds (next (at_receiver a) q) p

pub plain_second : (es ds : List Moment) (q : Two) → Plain (es ++ ds) q → Plain ds (play es q)
unfolding play
plain_second [] ds q p = p
plain_second (clock t ∷ es) ds q p = plain_second es ds (next (clock t) q) p.1
plain_second (at_sender a ∷ es) ds q p = plain_second es ds (next (at_sender a) q) p
plain_second (at_receiver a ∷ es) ds q p = plain_second es ds (next (at_receiver a) q) p

pub clocks_append : (es ds : List Moment) → clocks_in (es ++ ds) ≡ clocks_in es + clocks_in ds
clocks_append [] ds = omega arith
clocks_append (clock t ∷ es) ds =
    let e : clocks_in (es ++ ds) ≡ clocks_in es + clocks_in ds = clocks_append es ds in
    omega (arith, e)
clocks_append (at_sender a ∷ es) ds = clocks_append es ds
clocks_append (at_receiver a ∷ es) ds = clocks_append es ds

pub play_append : (es ds : List Moment) (q : Two) → play (es ++ ds) q ≡ play ds (play es q)
unfolding play
play_append [] ds q = refl
play_append (e ∷ es) ds q = play_append es ds (next e q)
