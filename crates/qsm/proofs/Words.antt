-- A supervisor's word or byte, written and read. Assumes nothing.
use mathlib.Core.Path.{◌≡◌, refl, ap, ◌∙◌}
use mathlib.Core.Bool.{Bool, true, false, cond}
use Prim.Native.Nat.{ℕ, ◌*◌, ◌/◌, ◌%◌, ◌<◌}
use native.Mathlib.Nat.{zero-add}
use native.Mathlib.Omega.{arith}
use lib.Dec.{eqb, ltb}
use borrow.Author.Tests.{ltb-true, ltb-false, lt-ltb}
use Rattle.steps.specs.Iterate.{iterate}
use Rattle.qsm.specs.model.Map.{decode, mapped}
use Rattle.qsm.specs.model.Lanes as lanes
use Rattle.qsm.specs.model.Word.{peek, put, unmodelled, guarded}
use Rattle.qsm.specs.model.Access.{fetch, fetched, store, stored}
use Rattle.qsm.specs.model.Decision.{shaped, fits, permits, gate, tested, admitted, decide_read, stored_by, decide_stored}
use Rattle.qsm.specs.model.Event.{done, answer_of, read_value, refused, write_decided, reads, writes, does, step}
use Rattle.qsm.specs.claims.Registers.{reading, writing}
use Rattle.qsm.specs.declared.state.Module.{Module}
use Rattle.qsm.specs.declared.map.Place.{Place}
use Rattle.qsm.specs.declared.access.Store.{Store}
use Rattle.qsm.specs.declared.decision.Decision.{Decision}
use Rattle.qsm.specs.declared.event.Done.{Done}
use Rattle.qsm.proofs.Booleans.{on, clash}
use Rattle.qsm.proofs.Ranges.{past_map}

-- Outside the map a read gives 0, and is refused.
pub hole_read : (m : Module) (width offset : ℕ) → shaped width offset ≡ true → mapped (decode offset) ≡ false →
    ((reading m width offset).value ≡ 0) × ((reading m width offset).refusal ≡ 2)
unfolding step answer_of does reads refused decide_read admitted lanes.in_map
hole_read m width offset s h = (rw (s, h), rw (s, h))

-- A place of the map is below 150, so that the next word's offset has 16 bits.
pub in_map : (b : ℕ) → mapped (decode b) ≡ true → b < 0x150
in_map b h =
    on (ltb b 0x150) (λ e. ltb-true b 0x150 e)
    (λ e. clash (mapped (decode b)) (rw (past_map b (omega (arith, ltb-false b 0x150 e)))) h)

-- A word and a byte of the map as they are read.
pub word_read : (m : Module) (offset : ℕ) → eqb (offset % 2) 0 ≡ true → mapped (decode offset) ≡ true →
    (reading m 2 offset).value ≡ peek m (decode offset)
unfolding step answer_of does reads decide_read admitted lanes.in_map read_value fetched fetch iterate
word_read m offset e h = rw (e, h) (zero-add _)

abbrev pub byte_of : Bool → ℕ → ℕ
byte_of upper w = cond upper (w / 256 % 256) (w % 256)

pub byte_read : (m : Module) (offset : ℕ) → mapped (decode offset) ≡ true →
    (reading m 1 offset).value ≡ byte_of (eqb (offset % 2) 0) (peek m (decode offset))
unfolding step answer_of does reads decide_read admitted lanes.in_map read_value fetched fetch iterate
byte_read m offset h = rw (h, zero-add)

-- What a write comes to, by whether its value fits, sets an unmodelled bit, changes a guarded field.
abbrev decided : Bool → Bool → Bool → Decision
decided fit unmodelled guarded = tested (gate fit true false) (permits (gate fit true false)) unmodelled guarded

pub record Let (m : Module) (d : Done) (s : Store) (fit : Bool) : Type 0 where
  pub state : d.state ≡ s.state
  pub fits : fit ≡ true
  pub unmodelled : s.unmodelled ≡ false
  pub guarded : s.guarded ≡ false

let_by : (m : Module) (s : Store) (fit un gu : Bool) → s.unmodelled ≡ un → s.guarded ≡ gu →
    (write_decided (decided fit un gu) m s).refusal ≡ 0 → Let m (write_decided (decided fit un gu) m s) s fit
unfolding refused
let_by m s true false false u g h = record { state = refl; fits = refl; unmodelled = u; guarded = g }
let_by m s true false true u g h = absurd (omega arith)
let_by m s true true gu u g h = absurd (omega arith)
let_by m s false un gu u g h = absurd (omega arith)

writes_as : (m : Module) (width offset v : ℕ) → shaped width offset ≡ true → lanes.in_map width offset ≡ true →
    writes m true width offset v
    ≡ write_decided (decided (fits width v) (stored_by m width offset v).unmodelled (stored_by m width offset v).guarded) m
    (stored_by m width offset v)
unfolding writes decide_stored admitted
writes_as m width offset v s h = rw (s, h)

-- A write that is not refused.
pub written : (m : Module) (width offset v : ℕ) → shaped width offset ≡ true → lanes.in_map width offset ≡ true →
    (writing m width offset v).answer.refusal ≡ 0 →
    Let m (writes m true width offset v) (stored_by m width offset v) (fits width v)
unfolding step answer_of does
written m width offset v s h r =
    let e = writes_as m width offset v s h in
    rw e (let_by m (stored_by m width offset v) (fits width v) (stored_by m width offset v).unmodelled (stored_by m width offset v).guarded refl refl
    (rw e at r))

-- Of a word: all of it is put.
word_stored : (m : Module) (offset v : ℕ) → v < 65536 → (stored_by m 2 offset v).state ≡ put m (decode offset) v true true
unfolding stored_by stored store iterate
word_stored m offset v h =
    let it : v % 65536 * 65536 / 65536 ≡ v = omega arith in
    rw it

pub record Word (m : Module) (offset v : ℕ) : Type 0 where
  pub small : v < 65536
  pub state : (writing m 2 offset v).state ≡ put m (decode offset) v true true
  pub unmodelled : unmodelled m (decode offset) v true true ≡ false
  pub guarded : guarded m (decode offset) v true true ≡ false

pub word_written_holds : (m : Module) (offset v : ℕ) → eqb (offset % 2) 0 ≡ true → mapped (decode offset) ≡ true →
    (writing m 2 offset v).answer.refusal ≡ 0 → Word m offset v
unfolding step answer_of does lanes.in_map stored_by stored store iterate
word_written_holds m offset v e h r =
    let w = written m 2 offset v e (rw h) r in
    let less : v < 65536 = ltb-true v 65536 w.fits in
    let it : v % 65536 * 65536 / 65536 ≡ v = omega arith in
    record {
      small = less;
      state = w.state ∙ word_stored m offset v less;
      unmodelled = rw it at w.unmodelled;
      guarded = rw it at w.guarded;
    }

-- A word of the map, written and read.
pub word_back : (m : Module) (offset v : ℕ) → eqb (offset % 2) 0 ≡ true → mapped (decode offset) ≡ true →
    (writing m 2 offset v).answer.refusal ≡ 0 →
    (reading (writing m 2 offset v).state 2 offset).value ≡ peek (put m (decode offset) v true true) (decode offset)
word_back m offset v e h r =
    word_read (writing m 2 offset v).state offset e h
    ∙ ap (λ (n : Module). peek n (decode offset)) (word_written_holds m offset v e h r).state

-- ---- a write that nothing refuses

pub record Put (m : Module) (width offset v w : ℕ) (upper lower : Bool) : Type 0 where
  pub refusal : (writing m width offset v).answer.refusal ≡ 0
  pub state : (writing m width offset v).state ≡ put m (decode offset) w upper lower

pub record Free (m : Module) (p : Place) : Type 0 where
  pub mapped : mapped p ≡ true
  pub modelled : (w : ℕ) (upper lower : Bool) → unmodelled m p w upper lower ≡ false
  pub unguarded : (w : ℕ) (upper lower : Bool) → guarded m p w upper lower ≡ false

done_put : (m : Module) (width offset v w : ℕ) (upper lower : Bool) →
    writes m true width offset v ≡ done (put m (decode offset) w upper lower) 0 0 → Put m width offset v w upper lower
unfolding step answer_of does
done_put m width offset v w upper lower e =
    record { refusal = ap (λ (d : Done). d.refusal) e; state = ap (λ (d : Done). d.state) e }

word_done : (m : Module) (offset v : ℕ) → v < 65536 → eqb (offset % 2) 0 ≡ true → Free m (decode offset) →
    writes m true 2 offset v ≡ done (put m (decode offset) v true true) 0 0
unfolding lanes.in_map stored_by stored store iterate
word_done m offset v h e free =
    let it : v % 65536 * 65536 / 65536 ≡ v = omega arith in
    writes_as m 2 offset v e (rw free.mapped)
    ∙ rw (lt-ltb v 65536 h, free.modelled, free.unguarded, it)

pub word_put : (m : Module) (offset v : ℕ) → v < 65536 → eqb (offset % 2) 0 ≡ true → Free m (decode offset) →
    Put m 2 offset v v true true
word_put m offset v h e free = done_put m 2 offset v v true true (word_done m offset v h e free)

-- A byte stands in both bytes of its word, and is put in one.
byte_done : (m : Module) (offset v : ℕ) → v < 256 → Free m (decode offset) →
    writes m true 1 offset v ≡ done (put m (decode offset) (v * 257) (eqb (offset % 2) 0) (eqb (offset % 2) 1)) 0 0
unfolding lanes.in_map stored_by stored store iterate
byte_done m offset v h free =
    let it : v % 256 * 16842752 / 65536 ≡ v * 257 = omega arith in
    writes_as m 1 offset v refl (rw free.mapped)
    ∙ rw (lt-ltb v 256 h, free.modelled, free.unguarded, it)

pub byte_put : (m : Module) (offset v : ℕ) → v < 256 → Free m (decode offset) →
    Put m 1 offset v (v * 257) (eqb (offset % 2) 0) (eqb (offset % 2) 1)
byte_put m offset v h free = done_put m 1 offset v (v * 257) _ _ (byte_done m offset v h free)

-- A word that neither sets an unmodelled bit nor changes a guarded field.
pub word_let : (m : Module) (offset v : ℕ) → v < 65536 → eqb (offset % 2) 0 ≡ true → mapped (decode offset) ≡ true →
    unmodelled m (decode offset) v true true ≡ false → guarded m (decode offset) v true true ≡ false →
    (writing m 2 offset v).answer.refusal ≡ 0
unfolding step answer_of does lanes.in_map stored_by stored store iterate
word_let m offset v h e k u g =
    let it : v % 65536 * 65536 / 65536 ≡ v = omega arith in
    rw (writes_as m 2 offset v e (rw k), lt-ltb v 65536 h, it, u, g)
