-- The same write to two alike modules leaves alike ones; one to masked transmit words shows nowhere. Assumes nothing.
use mathlib.Core.Path.{◌≡◌, refl, sym, ap, ◌∙◌}
use mathlib.Core.Bool.{Bool, true, false, cond, ◌&&◌, false≢true}
use Prim.Native.Nat.{ℕ, ◌*◌, ◌/◌, ◌%◌}
use lib.Dec.{eqb}
use Rattle.steps.specs.Iterate.{iterate}
use Rattle.qsm.specs.model.Map.{decode}
use Rattle.qsm.specs.model.Lanes.{halves, upper_lane, lower_lane, lined}
use Rattle.qsm.specs.model.Word.{put}
use Rattle.qsm.specs.model.Access.{next, store, stored}
use Rattle.qsm.specs.model.Decision.{shaped, fits, permits, tested, admitted, stored_by, decide_stored}
use Rattle.qsm.specs.model.Event.{done, refused, writes}
use Rattle.qsm.specs.declared.map.QueueWord.TheVariants.{Spcr0, Spcr1, Spcr2, Spcr3Spsr, Receive, Transmit, Command}
use Rattle.qsm.specs.declared.map.Place.{Place}
use Rattle.qsm.specs.declared.map.Place.TheVariants.{Own, Serial, Queue, Hole}
use Rattle.qsm.specs.declared.state.Module.{Module}
use Rattle.qsm.specs.declared.access.Store.{Store}
use Rattle.qsm.specs.declared.decision.Decision.{Decision}
use Rattle.qsm.specs.declared.decision.Decision.TheVariants.{Permitted, Blocked, Misshapen, Unmapped, Unmodelled, Guarded}
use Rattle.claims_isolation.proofs.Masked.{masked}
use Rattle.claims_isolation.proofs.Words.{transmit_hidden}
use Rattle.claims_isolation.proofs.Held.{beside, Alike, DoneAlike}
use Rattle.claims_isolation.proofs.Stores.{StoresAlike, stores_same}

-- A write gives no value.
no_value : (permitted : Bool) (d : Decision) (m : Module) (s : Store) → (cond permitted (done s.state 0 0) (refused d m)).value ≡ 0
unfolding refused
no_value true d m s = refl
no_value false d m s = refl

pub write_value : (m : Module) (supervisor : Bool) (width offset value : ℕ) → (writes m supervisor width offset value).value ≡ 0
unfolding writes
write_value m supervisor width offset value =
    let s : Store = stored_by m width offset value in
    let d : Decision = decide_stored m s supervisor width offset value in
    no_value (permits d) d m s

module _ (entries : ℕ → Bool) where
  stored_alike : (m n : Module) (width offset value : ℕ) → Alike entries m n →
      StoresAlike entries (stored_by m width offset value) (stored_by n width offset value)
  unfolding stored_by stored
  stored_alike m n width offset value a =
      (stores_same entries (halves width) _ _ (upper_lane width offset) (lower_lane width offset)
      (record { state = a; at = refl; unmodelled = refl; guarded = refl }) refl).0

  decision_same : (m n : Module) (s t : Store) (supervisor : Bool) (width offset value : ℕ) → Alike entries m n → StoresAlike entries s t →
      decide_stored m s supervisor width offset value ≡ decide_stored n t supervisor width offset value
  unfolding decide_stored admitted
  decision_same m n s t supervisor width offset value a b =
      rw (b.unmodelled, b.guarded, a.is)

  write_decided_holds : (permitted : Bool) (d : Decision) (m n : Module) (s t : Store) → Alike entries m n → StoresAlike entries s t →
      DoneAlike entries (cond permitted (done s.state 0 0) (refused d m)) (cond permitted (done t.state 0 0) (refused d n))
  unfolding refused
  write_decided_holds true d m n s t a b = record { state = b.state; refusal = refl }
  write_decided_holds false d m n s t a b = record { state = a; refusal = refl }

  pub write_same : (m n : Module) (supervisor : Bool) (width offset value : ℕ) → Alike entries m n →
      DoneAlike entries (writes m supervisor width offset value) (writes n supervisor width offset value)
  unfolding writes
  write_same m n supervisor width offset value a =
      let s : Store = stored_by m width offset value in
      let t : Store = stored_by n width offset value in
      let b : StoresAlike entries s t = stored_alike m n width offset value a in
      rw (← decision_same m n s t supervisor width offset value a b)
      (write_decided_holds (permits (decide_stored m s supervisor width offset value)) (decide_stored m s supervisor width offset value) m n s t a b)

  -- A write to masked transmit words alone shows nowhere, whatever it writes and whether it is refused.
  abbrev pub hidden : Place → Bool
  hidden (Own w) = false
  hidden (Serial w) = false
  hidden (Queue Spcr0) = false
  hidden (Queue Spcr1) = false
  hidden (Queue Spcr2) = false
  hidden (Queue Spcr3Spsr) = false
  hidden (Queue (Receive i)) = false
  hidden (Queue (Transmit i)) = entries (i % 16)
  hidden (Queue (Command i)) = false
  hidden Hole = false

  put_left : (m n : Module) (p : Place) (v : ℕ) (upper lower : Bool) → hidden p ≡ true → Alike entries m n → Alike entries (put m p v upper lower) n
  unfolding put
  put_left m n (Own w) v upper lower h a = absurd (false≢true h)
  put_left m n (Serial w) v upper lower h a = absurd (false≢true h)
  put_left m n (Queue Spcr0) v upper lower h a = absurd (false≢true h)
  put_left m n (Queue Spcr1) v upper lower h a = absurd (false≢true h)
  put_left m n (Queue Spcr2) v upper lower h a = absurd (false≢true h)
  put_left m n (Queue Spcr3Spsr) v upper lower h a = absurd (false≢true h)
  put_left m n (Queue (Receive i)) v upper lower h a = absurd (false≢true h)
  put_left m n (Queue (Transmit i)) v upper lower h a =
      record {
        queue = a.queue;
        inputs = a.inputs;
        is = a.is;
        same = transmit_hidden entries m.qspi i v upper lower h ∙ a.same;
      }
  put_left m n (Queue (Command i)) v upper lower h a = absurd (false≢true h)
  put_left m n Hole v upper lower h a = absurd (false≢true h)

  -- The places that a write of a width touches.
  pub record Hidden (width offset : ℕ) : Type 0 where
    pub first : hidden (decode offset) ≡ true
    pub second : eqb width 4 ≡ true → hidden (decode (next offset)) ≡ true

  stored_left : (long : Bool) (m n : Module) (at words : ℕ) (upper lower : Bool) → hidden (decode at) ≡ true →
      (long ≡ true → hidden (decode (next at)) ≡ true) → Alike entries m n →
      Alike entries (stored m at (cond long 2 1) words upper lower).state n
  unfolding stored iterate store
  stored_left true m n at words upper lower first second a =
      put_left (put m (decode at) (words / 65536) upper lower) n (decode (next at)) (words % 65536 * 65536 / 65536) upper lower (second refl)
      (put_left m n (decode at) (words / 65536) upper lower first a)
  stored_left false m n at words upper lower first second a = put_left m n (decode at) (words / 65536) upper lower first a

  left_decided : (permitted : Bool) (d : Decision) (m n : Module) (s : Store) → Alike entries m n →
      (permitted ≡ true → Alike entries s.state n) → Alike entries (cond permitted (done s.state 0 0) (refused d m)).state n
  unfolding refused
  left_decided true d m n s a b = b refl
  left_decided false d m n s a b = a

  -- What is permitted passed 1, 2 and privilege.
  admits_first : (d : Decision) (unmodelled guarded : Bool) → permits (tested d (permits d) unmodelled guarded) ≡ true → permits d ≡ true
  admits_first Permitted unmodelled guarded h = refl
  admits_first Blocked unmodelled guarded h = h
  admits_first Misshapen unmodelled guarded h = h
  admits_first Unmapped unmodelled guarded h = h
  admits_first Unmodelled unmodelled guarded h = h
  admits_first Guarded unmodelled guarded h = h

  pub write_left : (m n : Module) (supervisor : Bool) (width offset value : ℕ) →
      (permits (admitted m (shaped width offset && fits width value) supervisor width offset) ≡ true → Hidden width offset) →
      Alike entries m n → Alike entries (writes m supervisor width offset value).state n
  unfolding writes stored_by decide_stored
  write_left m n supervisor width offset value h a =
      left_decided (permits (decide_stored m (stored_by m width offset value) supervisor width offset value)) _ m n (stored_by m width offset value) a
      (λ permitted.
      let here : Hidden width offset =
      h (admits_first (admitted m (shaped width offset && fits width value) supervisor width offset)
      (stored_by m width offset value).unmodelled (stored_by m width offset value).guarded permitted) in
      stored_left (eqb width 4) m n offset (lined width value) (upper_lane width offset) (lower_lane width offset) here.first here.second a)

  -- Which of the two is called the first is no matter.
  pub back : (m n : Module) → Alike entries m n → Alike entries n m
  back m n a =
      record {
        queue = m.qspi;
        inputs = m.inputs;
        is = sym (ap (λ k. beside k m.qspi m.inputs) a.is);
        same = ap (λ k. masked entries k.qspi) a.is ∙ sym a.same;
      }
