-- A standing plan whose SPE has just risen does what it says, under a host that holds and reads. Assumes nothing.
use mathlib.Core.Path.{◌≡◌, sym, ap, subst, ◌∙◌}
use mathlib.Core.Bool.{true, false, cond, and-false}
use Prim.Native.Nat.{ℕ, suc, ◌+◌, ◌-◌, ◌*◌, ◌/◌, ◌%◌, ◌≤◌, ◌<◌}
use native.Mathlib.Omega.{arith}
use lib.Dec.{ltb, leb}
use borrow.Author.Tests.{lt-ltb, le-leb}
use Rattle.steps.specs.Bits.{bit}
use Rattle.qspi.specs.model.Fields.{mstr, cpol, cpha, spe, spbr, wren, endqp, newqp}
use Rattle.qspi.specs.model.Outputs.{sck, pcs}
use Rattle.qspi.specs.claims.Run.{run}
use Rattle.qspi.specs.declared.Qspi.{Qspi}
use Rattle.qspi.specs.declared.Pins.{Pins}
use Rattle.qsm.specs.model.Decision.{admitted, decide_read}
use Rattle.qsm.specs.model.Event.{answer_of, refused, reads, does, step}
use Rattle.qsm.specs.claims.PinClauses.{SPE, assigned, high, DrivenAt, OutputAt, PinClauses}
use Rattle.qsm.specs.declared.state.Module.{Module}
use Rattle.qsm.specs.declared.event.Access.TheVariants.{Read}
use Rattle.qsm.specs.declared.event.Event.TheVariants as event
use Rattle.qsm.proofs.Booleans.{on}
use Rattle.qsm.proofs.PinClauses.{pins}
use Rattle.qsm.proofs.Reading.{spcr1_read}
use Rattle.qsm.proofs.StatusFlags.{spif_read}
use Rattle.tool_plan.specs.Check.{bits_no, word_no}
use Rattle.tool_plan.specs.Accepted.{Accepted}
use Rattle.tool_plan.specs.Running.{played, start_of, edge_no, Within, read_in, Does}
use Rattle.tool_plan.specs.declared.SetPoints.{SetPoints}
use Rattle.tool_plan.specs.declared.Plan.{Plan}
use Rattle.tool_plan.proofs.Started.{Started}
use Rattle.tool_plan.proofs.Clocking.{spif_at, enabled_at}
use Rattle.tool_plan.proofs.AtEntry.{AtEntry, at_entry}
use Rattle.tool_plan.proofs.Sending.{Shows, shows, bit_read, read_in_holds}
use Rattle.tool_plan.proofs.Resting.{rests, early}
use Rattle.claims_plans.specs.Watching.{clocks_in}
use Rattle.claims_plans.specs.Standing.{Laid, RunsPlan}
use Rattle.claims_plans.proofs.SeenFlags.{with_seen}
use Rattle.claims_plans.proofs.Walked.{Walked, walked}
use Rattle.claims_plans.proofs.Fresh.{Fresh}

-- ---- the pins of a module, as an answer shows them

-- A read refused 1 leaves the module and shows its pins.
misshapen : (m : Module) → PinClauses m (answer_of m 1 0)
unfolding step does reads decide_read admitted refused
misshapen m = pins m (event.Access (Read true 0 0))

spe_of : (m : Module) → spe m.qspi.registers.spcr1 ≡ true → SPE m ≡ true
spe_of m up = ap (bit 15) (spcr1_read m) ∙ up

module _ (m : Module) (up : spe m.qspi.registers.spcr1 ≡ true) where
  pub sck_shown : DrivenAt (answer_of m 0 0) 2 (sck m.qspi)
  unfolding answer_of
  sck_shown = (misshapen m).clock (spe_of m up)

  pub mosi_shown : assigned m 1 ≡ true → bit 1 m.ddrqs ≡ true → DrivenAt (answer_of m 0 0) 1 m.qspi.entry.mosi
  unfolding answer_of
  mosi_shown mine out =
      let o = (misshapen m).data_out (spe_of m up) mine in
      let driven = o.0 ∙ out in
      (driven, o.1 driven)

  pub pcs_shown : (i : ℕ) → i < 4 → assigned m (3 + i) ≡ true → OutputAt m (answer_of m 0 0) (3 + i) (bit i (pcs m.qspi m.portqs))
  unfolding answer_of
  pcs_shown i four mine = (misshapen m).selects i four (spe_of m up) mine

-- With SPE clear DDRQS and PORTQS rule.
pub sck_parked : (m : Module) → spe m.qspi.registers.spcr1 ≡ false →
    high (answer_of m 0 0) 2 ≡ cond (bit 2 m.ddrqs) (bit 2 m.portqs) false
unfolding answer_of
sck_parked m off =
    let o = (misshapen m).port 2 (omega arith) (ap (bit 15) (spcr1_read m) ∙ off) in
    on (bit 2 m.ddrqs) (λ e. rw e (o.1 (o.0 ∙ e))) (λ e. rw e ((misshapen m).undriven 2 (o.0 ∙ e)))

-- ---- the queue where the plan stands

module _ (h l f : ℕ) (few : l < 16) (low : f < 16) where
  end_at : endqp (h * 8192 + l * 256 + f) ≡ l
  end_at = omega arith

  new_at : newqp (h * 8192 + l * 256 + f) ≡ f
  new_at = omega arith

wren_same : (v l f : ℕ) → l < 16 → f < 16 → wren (v / 8192 * 8192 + l * 256 + f) ≡ wren v
wren_same v l f few low =
    let same : (v / 8192 * 8192 + l * 256 + f) / 16384 % 2 ≡ v / 16384 % 2 = omega arith in
    rw same

pub standing : (s : SetPoints) (window : ℕ) (p : Plan) (a : Accepted s window p) (l : Module) → Laid p l →
    l.qspi.registers.spcr1 ≡ p.spcr1 → Fresh l.qspi → Started p l.qspi
standing s window p a l d is fresh =
    let few : p.last < 16 = omega (arith, a.last) in
    let low : p.first < 16 = omega (arith, a.first) in
    record {
      starts =
          record {
            on = ap spe is ∙ a.enabled;
            not_playing = fresh.not_playing;
            not_delaying = fresh.not_delaying;
            goes = rw (ap spbr d.spcr0, le-leb 2 (spbr p.spcr0) a.rate, d.goes) (rw (and-false l.qspi.entry.halted));
          };
      first = fresh.here ∙ ap newqp d.spcr2 ∙ new_at (p.spcr2 / 8192) p.last p.first few low;
      spcr0 = d.spcr0;
      spcr1 = is;
      last = ap endqp d.spcr2 ∙ end_at (p.spcr2 / 8192) p.last p.first few low;
      no_wrap = ap wren d.spcr2 ∙ wren_same p.spcr2 p.last p.first few low ∙ a.no_wrap;
      goes = d.goes;
      low = d.low;
      words = d.words;
      commands = d.commands;
    }

module _ (s : SetPoints) (window : ℕ) (p : Plan) (a : Accepted s window p) (l : Module) (st : Started p l.qspi)
    (mine : assigned l 1 ≡ true) (out : bit 1 l.ddrqs ≡ true) where
  -- Some clocks on.
  module _ (c : ℕ) (x : Module) (w : Walked l c x) where
    abbrev levels : ℕ → Pins
    levels = w.levels

    abbrev q : Qspi
    q = run levels c l.qspi

    is_run : x.qspi ≡ with_seen w.seen q
    is_run = w.queue

    mosi_assigned : assigned x 1 ≡ true
    mosi_assigned = ap (bit 1) w.pqspar ∙ mine

    mosi_output : bit 1 x.ddrqs ≡ true
    mosi_output = ap (bit 1) w.ddrqs ∙ out

    at : (k : ℕ) → k < s.count → AtEntry p l.qspi levels k (run levels (start_of p k) l.qspi)
    at k less = at_entry s window p a l.qspi st levels w.quiet k (omega (arith, a.once))

    shown : (k j : ℕ) → k < s.count → j < bits_no s k * 2 → Within p k j c → Shows s p k j q
    shown k j less few within =
        shows s window p a l.qspi (run levels (start_of p k) l.qspi) levels w.quiet k j c less few within (at k less)

    spe_is : spe x.qspi.registers.spcr1 ≡ spe q.registers.spcr1
    spe_is = ap (λ (r : Qspi). spe r.registers.spcr1) is_run

    enabled : spe x.qspi.registers.spcr1 ≡ ltb c p.clock
    enabled = spe_is ∙ enabled_at s window p a l.qspi st levels w.quiet c

    spif : x.qspi.spsr.flags.spif ≡ leb p.clock c
    spif = ap (λ (r : Qspi). r.spsr.flags.spif) is_run ∙ spif_at s window p a l.qspi st levels w.quiet c

    resting : (k : ℕ) → suc k < s.count → edge_no p k (bits_no s k * 2) ≤ c → c ≤ start_of p (suc k) → DrivenAt (answer_of x 0 0) 2 (cpol p.spcr0)
    resting k next low high =
        let r : Qspi = run levels (start_of p k) l.qspi in
        let here : AtEntry p l.qspi levels k r = at k (omega arith) in
        let within : c < p.clock = early s window p a l.qspi r levels w.quiet k c next low high here in
        subst (DrivenAt (answer_of x 0 0) 2) (ap sck is_run ∙ rests s window p a l.qspi r levels w.quiet k c next low high here)
        (sck_shown x (enabled ∙ lt-ltb c p.clock within))

    sends : (k i : ℕ) → k < s.count → i < bits_no s k → c ≡ read_in p k i → DrivenAt (answer_of x 0 0) 1 (bit (bits_no s k - 1 - i) (word_no s k))
    sends k i less few now =
        let within : Within p k (i * 2 + 1) c = subst (Within p k (i * 2 + 1)) (sym now) (read_in_holds p a.rate k i) in
        let sh : Shows s p k (i * 2 + 1) q = shown k (i * 2 + 1) less (omega arith) within in
        let level : q.entry.mosi ≡ bit (bits_no s k - 1 - i) (word_no s k) =
        sh.data_out (λ e. omega arith) ∙ ap (λ (n : ℕ). bit (bits_no s k - 1 - n) (word_no s k)) (bit_read (cpha p.spcr0) i) in
        subst (DrivenAt (answer_of x 0 0) 1) (ap (λ (r : Qspi). r.entry.mosi) is_run ∙ level)
        (mosi_shown x (spe_is ∙ sh.on) mosi_assigned mosi_output)

    pub does_all : Does s p x c
    does_all =
        record {
          spif = spif;
          enabled = enabled;
          sends = sends;
          clocks =
              λ k j less few within.
              let sh : Shows s p k j q = shown k j less few within in
              subst (DrivenAt (answer_of x 0 0) 2) (ap sck is_run ∙ sh.clock) (sck_shown x (spe_is ∙ sh.on));
          rests = resting;
          selects =
              λ k j i less few within four assigned.
              let sh : Shows s p k j q = shown k j less few within in
              subst (OutputAt x (answer_of x 0 0) (3 + i))
              (ap (λ (r : Qspi). bit i (pcs r x.portqs)) is_run ∙ ap (bit i) (sh.select x.portqs))
              (pcs_shown x (spe_is ∙ sh.on) i four assigned);
        }

  master : mstr l.qspi.registers.spcr0 ≡ true
  master = ap mstr st.spcr0 ∙ a.master

  pub runs_plan : RunsPlan s p l
  runs_plan es w =
      let x : Module = played es l in
      let v : Walked l (clocks_in es) x = walked es l master w in
      (does_all (clocks_in es) x v, spif_read x ∙ spif (clocks_in es) x v)
