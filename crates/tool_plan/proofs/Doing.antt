-- An accepted plan does what it says: loaded and held, by the module's pins. Assumes nothing.
use mathlib.Core.Path.{◌≡◌, sym, ap, subst, ◌∙◌}
use mathlib.Core.Bool.{Bool, true, false}
use mathlib.Core.List.{List, [], ◌∷◌}
use Prim.Native.Nat.{ℕ, suc, ◌+◌, ◌-◌, ◌*◌, ◌≤◌, ◌<◌}
use native.Mathlib.Omega.{arith}
use lib.Dec.{ltb}
use borrow.Author.Tests.{lt-ltb}
use Rattle.steps.specs.Bits.{bit}
use Rattle.steps.specs.Iterate.{iterate}
use Rattle.qspi.specs.model.Fields.{cpol, cpha, spe}
use Rattle.qspi.specs.model.Outputs.{sck}
use Rattle.qspi.specs.claims.Run.{run}
use Rattle.qspi.specs.claims.Laws.{Calm}
use Rattle.qspi.specs.declared.Qspi.{Qspi}
use Rattle.qspi.specs.declared.Pins.{Pins}
use Rattle.qsm.specs.model.Event.{answer_of, clock_limit, clocks, step}
use Rattle.qsm.specs.claims.PinClauses.{SPE, assigned, DrivenAt, OutputAt, PinClauses}
use Rattle.qsm.specs.declared.state.Module.{Module}
use Rattle.qsm.specs.declared.event.Event.TheVariants.{Hold}
use Rattle.qsm.specs.declared.event.Done.{Done}
use Rattle.qsm.proofs.Limit.{hold_played, is_room}
use Rattle.qsm.proofs.PinClauses.{pins}
use Rattle.qsm.proofs.Reading.{spcr1_read}
use Rattle.tool_plan.specs.Check.{bits_no, word_no}
use Rattle.tool_plan.specs.Accepted.{Accepted}
use Rattle.tool_plan.specs.Loading.{loading}
use Rattle.tool_plan.specs.Running.{played, Span, total, ran, Counts, NoFault, Ready, Sized, start_of, edge_no, Within, read_in, Does, DoesWhatItSays}
use Rattle.tool_plan.specs.declared.SetPoints.{SetPoints}
use Rattle.tool_plan.specs.declared.Plan.{Plan}
use Rattle.tool_plan.proofs.Meaning.{means}
use Rattle.tool_plan.proofs.Held.{pins_in, holds_run, no_fault}
use Rattle.tool_plan.proofs.Held as holds-in-turn
use Rattle.tool_plan.proofs.Started.{Started, loaded, started}
use Rattle.tool_plan.proofs.Started as writes
use Rattle.tool_plan.proofs.Clocking.{spif_at, enabled_at}
use Rattle.tool_plan.proofs.AtEntry.{AtEntry, at_entry}
use Rattle.tool_plan.proofs.Sending.{Shows, shows, bit_read, read_in_holds}
use Rattle.tool_plan.proofs.Resting.{rests, early}

-- The pins of a module, as the answer to a hold of no clocks shows them.
pins_of_holds : (m : Module) → m.clock ≤ clock_limit → PinClauses m (answer_of m 0 0)
unfolding step clocks iterate
pins_of_holds m room =
    subst (λ (d : Done). PinClauses d.state (answer_of d.state d.refusal d.value))
    (hold_played m m.inputs false 0 (is_room m 0 (omega arith))) (pins m (Hold m.inputs false 0))

spe_of : (m : Module) → spe m.qspi.registers.spcr1 ≡ true → SPE m ≡ true
spe_of m on = ap (bit 15) (spcr1_read m) ∙ on

-- A driven output at its level.
driven_at : (m : Module) (k : ℕ) (x : Bool) → bit k m.ddrqs ≡ true → OutputAt m (answer_of m 0 0) k x → DrivenAt (answer_of m 0 0) k x
driven_at m k x out o = let driven = o.0 ∙ out in (driven, o.1 driven)

no_fault_same : (hs : List Span) (m n : Module) → n.pqspar ≡ m.pqspar → n.ddrqs ≡ m.ddrqs → NoFault m hs → NoFault n hs
no_fault_same [] m n e f calm = tt
no_fault_same (h ∷ hs) m n e f calm = (rw (e, f) calm.0, no_fault_same hs m n e f calm.1)

module _ (s : SetPoints) (window : ℕ) (p : Plan) (m : Module) (hs : List Span) (a : Accepted s window p) (sized : Sized p) (r : Ready m)
    (counts : Counts m hs) (calm : NoFault m hs) where
  -- The module when the plan is loaded, and when the holds are over.
  abbrev l : Module
  l = played (loading p) m

  abbrev x : Module
  x = ran p m hs

  st : Started p l.qspi
  st = subst (λ (k : Module). Started p k.qspi) (sym (loaded s window p m a sized r)) (started s window p m a sized r)

  pqspar_l : l.pqspar ≡ m.pqspar
  pqspar_l = ap (λ (k : Module). k.pqspar) (loaded s window p m a sized r) ∙ (writes.pins_stay s window p m a sized r).0

  ddrqs_l : l.ddrqs ≡ m.ddrqs
  ddrqs_l = ap (λ (k : Module). k.ddrqs) (loaded s window p m a sized r) ∙ (writes.pins_stay s window p m a sized r).1

  room : l.clock + total hs ≤ clock_limit
  room =
      omega (arith, ap (λ (k : Module). k.clock) (loaded s window p m a sized r), (writes.pins_stay s window p m a sized r).2)

  in_count : x.clock ≤ clock_limit
  in_count = (holds-in-turn.pins_stay hs l room).2

  mosi_assigned : assigned x 1 ≡ true
  mosi_assigned = ap (bit 1) ((holds-in-turn.pins_stay hs l room).0 ∙ pqspar_l) ∙ r.mosi_assigned

  mosi_output : bit 1 x.ddrqs ≡ true
  mosi_output = ap (bit 1) ((holds-in-turn.pins_stay hs l room).1 ∙ ddrqs_l) ∙ r.mosi_output

  abbrev levels : ℕ → Pins
  levels = pins_in l.pqspar l.ddrqs hs

  quiet : Calm levels
  quiet = no_fault hs l (no_fault_same hs m l pqspar_l ddrqs_l calm)

  is_run : x.qspi ≡ run levels (total hs) l.qspi
  is_run = holds_run hs l room

  shown : (k j : ℕ) → k < s.count → j < bits_no s k * 2 → Within p k j (total hs) → Shows s p k j x.qspi
  shown k j less few w =
      subst (Shows s p k j) (sym is_run)
      (shows s window p a l.qspi (run levels (start_of p k) l.qspi) levels quiet k j (total hs) less few w
      (at_entry s window p a l.qspi st levels quiet k (omega (arith, a.once))))

  enabled : spe x.qspi.registers.spcr1 ≡ ltb (total hs) p.clock
  enabled =
      ap (λ (q : Qspi). spe q.registers.spcr1) is_run ∙ enabled_at s window p a l.qspi st levels quiet (total hs)

  resting : (k : ℕ) → suc k < s.count → edge_no p k (bits_no s k * 2) ≤ total hs → total hs ≤ start_of p (suc k) →
      DrivenAt (answer_of x 0 0) 2 (cpol p.spcr0)
  resting k next low high =
      let r : Qspi = run levels (start_of p k) l.qspi in
      let at : AtEntry p l.qspi levels k r = at_entry s window p a l.qspi st levels quiet k (omega (arith, a.once)) in
      let within : total hs < p.clock = early s window p a l.qspi r levels quiet k (total hs) next low high at in
      subst (DrivenAt (answer_of x 0 0) 2) (ap sck is_run ∙ rests s window p a l.qspi r levels quiet k (total hs) next low high at)
      ((pins_of_holds x in_count).clock (spe_of x (enabled ∙ lt-ltb (total hs) p.clock within)))

  sends : (k i : ℕ) → k < s.count → i < bits_no s k → total hs ≡ read_in p k i →
      DrivenAt (answer_of x 0 0) 1 (bit (bits_no s k - 1 - i) (word_no s k))
  sends k i less few at =
      let w : Within p k (i * 2 + 1) (total hs) = subst (Within p k (i * 2 + 1)) (sym at) (read_in_holds p a.rate k i) in
      let sh : Shows s p k (i * 2 + 1) x.qspi = shown k (i * 2 + 1) less (omega arith) w in
      let level : x.qspi.entry.mosi ≡ bit (bits_no s k - 1 - i) (word_no s k) =
      sh.data_out (λ e. omega arith) ∙ ap (λ (n : ℕ). bit (bits_no s k - 1 - n) (word_no s k)) (bit_read (cpha p.spcr0) i) in
      driven_at x 1 _ mosi_output
      (subst (OutputAt x (answer_of x 0 0) 1) level ((pins_of_holds x in_count).data_out (spe_of x sh.on) mosi_assigned))

  does_all : Does s p x (total hs)
  does_all =
      record {
        spif = ap (λ (q : Qspi). q.spsr.flags.spif) is_run ∙ spif_at s window p a l.qspi st levels quiet (total hs);
        enabled = enabled;
        sends = sends;
        clocks =
            λ k j less few w.
            let sh : Shows s p k j x.qspi = shown k j less few w in
            subst (DrivenAt (answer_of x 0 0) 2) sh.clock ((pins_of_holds x in_count).clock (spe_of x sh.on));
        rests = resting;
        selects =
            λ k j i less few w four mine.
            let sh : Shows s p k j x.qspi = shown k j less few w in
            subst (OutputAt x (answer_of x 0 0) (3 + i)) (ap (bit i) (sh.select x.portqs))
            ((pins_of_holds x in_count).selects i four (spe_of x sh.on) mine);
      }

pub does_what_it_says : DoesWhatItSays
does_what_it_says s window p m hs h sized r counts calm = does_all s window p m hs ((means s window p).0 h) sized r counts calm
