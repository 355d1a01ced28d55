-- What two histories leave stays alike, event by event. Assumes nothing.
use mathlib.Core.Path.{◌≡◌, refl, sym, ap, subst, ◌∙◌}
use mathlib.Core.Bool.{Bool, true, false, cond}
use Prim.Native.Nat.{ℕ}
use Rattle.qspi.specs.model.Outputs as queue
use Rattle.sci.specs.model.Serial as serial
use Rattle.qsm.specs.model.State.{reset_module}
use Rattle.qsm.specs.model.Request.{request}
use Rattle.qsm.specs.model.Event.{answer_of, does}
use Rattle.qsm.specs.model.Event as model
use Rattle.qsm.specs.model.Decision.{permits, admitted}
use Rattle.qsm.specs.declared.state.Module.{Module}
use Rattle.qsm.specs.declared.event.Access as access
use Rattle.qsm.specs.declared.event.Access.TheVariants.{Read, Write}
use Rattle.qsm.specs.declared.event.Event as below
use Rattle.qsm.specs.declared.event.Event.TheVariants as event
use Rattle.drivers.specs.State.{number_of, owns, begun}
use Rattle.drivers.specs.Reach.{reaches, writes, allows, admits}
use Rattle.drivers.specs.Event.{told, played, with_split, with_holder, refuses, fixed, restarted, step}
use Rattle.drivers.specs.Event as drivers
use Rattle.drivers.specs.declared.state.Driver.{Driver}
use Rattle.drivers.specs.declared.state.Shared.{Shared}
use Rattle.drivers.specs.declared.event.Event.{Event}
use Rattle.drivers.specs.declared.event.Event.TheVariants.{Reset, Hold, Access, Drive, Claim, Release}
use Rattle.drivers.specs.declared.event.Stepped.{Stepped}
use Rattle.claims_isolation.proofs.Held.{Alike, DoneAlike, itself, hold_alike}
use Rattle.claims_isolation.proofs.Writes.{write_same}
use Rattle.claims_isolation.proofs.Values.{read_same, read_decision}

-- The state with another module.
abbrev pub sharing : Shared → Module → Shared
sharing d m = record { qsm = m; split = d.split; holder = d.holder }

-- The second state is the first with a module that is alike under the mask of `who`.
pub record SharedAlike (who : Driver) (d d' : Shared) : Type 0 where
  pub qsm : Module
  pub is : d' ≡ sharing d qsm
  pub alike : Alike (owns d.split who) d.qsm qsm

-- What two steps give.
pub record SteppedAlike (who : Driver) (a b : Stepped) : Type 0 where
  pub state : SharedAlike who a.state b.state
  pub refusal : a.answer.refusal ≡ b.answer.refusal
  pub level : a.answer.level ≡ b.answer.level
  pub vector : a.answer.vector ≡ b.answer.vector
  pub clock : a.answer.clock ≡ b.answer.clock

module _ (entries : ℕ → Bool) where
  -- The request goes by no masked data.
  request_same : (m n : Module) → Alike entries m n →
      request (queue.asks m.qspi) (serial.asks m.sci) m.qilr m.qivr
      ≡ request (queue.asks n.qspi) (serial.asks n.sci) n.qilr n.qivr
  request_same m n a =
      ap (λ q. request (queue.asks q) (serial.asks m.sci) m.qilr m.qivr) a.same
      ∙ sym (ap (λ k. request (queue.asks k.qspi) (serial.asks k.sci) k.qilr k.qivr) a.is)

  registers_same : (m n : Module) → Alike entries m n → m.qspi.registers ≡ n.qspi.registers
  registers_same m n a = ap (λ q. q.registers) a.same ∙ sym (ap (λ k. k.qspi.registers) a.is)

  -- Refusal 9 neither.
  admits_same : (m n : Module) (a : access.Access) → Alike entries m n → admits m a ≡ admits n a
  unfolding admits admitted
  admits_same m n (Read supervisor width offset) a = ap permits (read_decision entries m n supervisor width offset a)
  admits_same m n (Write supervisor width offset value) a = rw a.is

  allows_same : (d : Shared) (n : Module) (by : Driver) (a : access.Access) → Alike entries d.qsm n → allows d by a ≡ allows (sharing d n) by a
  unfolding allows reaches writes
  allows_same d n by (Read supervisor width offset) a = refl
  allows_same d n by (Write supervisor width offset value) a = rw (registers_same d.qsm n a)

  pub refuses_same : (d : Shared) (n : Module) (e : Event) → Alike entries d.qsm n → refuses d e ≡ refuses (sharing d n) e
  unfolding refuses
  refuses_same d n (Reset s) a = refl
  refuses_same d n (Hold pins rxd k) a = refl
  refuses_same d n (Access x) a = refl
  refuses_same d n (Drive by x) a = rw (admits_same d.qsm n x a, allows_same d n by x a)
  refuses_same d n (Claim by) a = refl
  refuses_same d n (Release by) a = rw (registers_same d.qsm n a)

  -- An event of the module.
  access_alike : (m n : Module) (x : access.Access) → Alike entries m n → DoneAlike entries (does m (event.Access x)) (does n (event.Access x))
  unfolding does
  access_alike m n (Read supervisor width offset) a = read_same entries m n supervisor width offset a
  access_alike m n (Write supervisor width offset value) a = write_same entries m n supervisor width offset value a

  hold_same : (m n : Module) (pins : ℕ) (rxd : Bool) (k : ℕ) → Alike entries m n →
      DoneAlike entries (does m (event.Hold pins rxd k)) (does n (event.Hold pins rxd k))
  unfolding does
  hold_same m n pins rxd k a = hold_alike entries m n pins pins rxd k a refl (λ i less runs. refl)

-- An event played by alike modules, and an answer where nothing is played.
module _ (who : Driver) (d : Shared) (n : Module) where
  abbrev here : ℕ → Bool
  here = owns d.split who

  pub played_alike : (e e' : below.Event) → DoneAlike here (does d.qsm e) (does n e') → SteppedAlike who (played d e) (played (sharing d n) e')
  unfolding played model.step answer_of
  played_alike e e' a =
      let m' : Module = (does d.qsm e).state in
      let n' : Module = (does n e').state in
      record {
        state = record { qsm = n'; is = refl; alike = a.state };
        refusal = a.refusal;
        level = ap (λ r. r.level) (request_same here m' n' a.state);
        vector = ap (λ r. r.vector) (request_same here m' n' a.state);
        clock = sym (ap (λ m. m.clock) a.state.is);
      }

  told_alike : (holder refusal : ℕ) → Alike here d.qsm n →
      SteppedAlike who (told (with_holder d holder) refusal) (told (with_holder (sharing d n) holder) refusal)
  unfolding told answer_of
  told_alike holder refusal a =
      record {
        state = record { qsm = n; is = refl; alike = a };
        refusal = refl;
        level = ap (λ r. r.level) (request_same here d.qsm n a);
        vector = ap (λ r. r.vector) (request_same here d.qsm n a);
        clock = sym (ap (λ m. m.clock) a.is);
      }

  -- A reset leaves one module, whatever was there.
  fixed_sharing : (begun : Bool) (s : ℕ) →
      cond begun (sharing d n) (with_split (sharing d n) s) ≡ sharing (cond begun d (with_split d s)) n
  fixed_sharing true s = refl
  fixed_sharing false s = refl

reset_alike : (who : Driver) (d : Shared) (n : Module) (s : ℕ) → SteppedAlike who (restarted d s) (restarted (sharing d n) s)
unfolding restarted does model.resets
reset_alike who d n s =
    subst (λ r. SteppedAlike who (restarted d s) (played (with_holder r 0) event.Reset)) (sym (fixed_sharing who d n (begun d) s))
    (played_alike who (with_holder (fixed d s) 0) n event.Reset event.Reset
    (record { state = itself (owns (fixed d s).split who) reset_module; refusal = refl }))

module _ (who : Driver) (d : Shared) (n : Module) (a : Alike (owns d.split who) d.qsm n) where
  does_alike : (e : Event) → SteppedAlike who (drivers.does d e) (drivers.does (sharing d n) e)
  unfolding drivers.does
  does_alike (Reset s) = reset_alike who d n s
  does_alike (Hold pins rxd k) =
      played_alike who d n (event.Hold pins rxd k) (event.Hold pins rxd k) (hold_same (owns d.split who) d.qsm n pins rxd k a)
  does_alike (Access x) = played_alike who d n (event.Access x) (event.Access x) (access_alike (owns d.split who) d.qsm n x a)
  does_alike (Drive by x) = played_alike who d n (event.Access x) (event.Access x) (access_alike (owns d.split who) d.qsm n x a)
  does_alike (Claim by) = told_alike who d n (number_of by) 0 a
  does_alike (Release by) = told_alike who d n 0 0 a

  by_refusal : (refused : Bool) (e : Event) →
      SteppedAlike who (cond refused (told d 9) (drivers.does d e)) (cond refused (told (sharing d n) 9) (drivers.does (sharing d n) e))
  by_refusal true e = told_alike who d n d.holder 9 a
  by_refusal false e = does_alike e

  -- The same event of both.
  pub same_event : (e : Event) → SteppedAlike who (step d e) (step (sharing d n) e)
  unfolding step
  same_event e = rw (← refuses_same (owns d.split who) d n e a) (by_refusal (refuses d e) e)
