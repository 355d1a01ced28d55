-- A fair sender over the module's events, by the steps of its serial half. Assumes nothing.
use mathlib.Core.Path.{◌≡◌, refl, ap, ap₂, sym, subst, ◌∙◌}
use mathlib.Core.Bool.{Bool, true, false, ◌&&◌, false≢true}
use mathlib.Core.List.{List, [], ◌∷◌, ◌++◌}
use mathlib.Core.Option.{none}
use Prim.Native.Nat.{ℕ, ◌*◌, ◌^◌, ◌<◌}
use native.Mathlib.Omega.{arith}
use Rattle.sci.specs.model.Control.{SCBR, M}
use Rattle.sci.specs.model.Framer.{searching}
use Rattle.sci.specs.claims.Overrun.{Mark, frame_lost, word_came, status_read, word_delivered, was_reset}
use Rattle.sci.specs.claims.Overrun as marks
use Rattle.sci.specs.claims.History.{Step}
use Rattle.sci.specs.claims.History as sci
use Rattle.sci.specs.declared.framer.Framer.{Framer}
use Rattle.sci.specs.declared.serial.Sci.{Sci}
use Rattle.qsm.specs.model.State.{reset_module}
use Rattle.qsm.specs.declared.state.Module.{Module}
use Rattle.qsm.specs.declared.event.Event.{Event}
use Rattle.claims_histories.specs.History.{after, run, log}
use Rattle.claims_histories.proofs.Follows.{steps, follows}
use Rattle.claims_histories.proofs.Lifted.{all, all_ops, all_log}
use Rattle.claims_histories.proofs.Uncounted.{rate_is_all_holds}
use Rattle.claims_polling.specs.Spacing.{samples_of}
use Rattle.claims_polling.specs.Rule.{lost_in}
use Rattle.claims_deadlines.specs.Deadline.{SpacedFrom, StaysOn}
use Rattle.claims_deadlines.proofs.Events.{deadline}
use Rattle.claims_senders.specs.Fair.{SentFrame, words_sent, line}
use Rattle.claims_senders.specs.Heard.{earliest}
use Rattle.claims_senders.specs.Clocks.{sampled_at}
use Rattle.claims_senders.specs.Undamaged.{Undamaged}
use Rattle.claims_senders.proofs.Receiving as serial
use Rattle.claims_senders.proofs.Sampled.{clocks_heard}
use Rattle.claims_senders.proofs.Taking.{taken}
use Rattle.claims_senders.proofs.Undamaged.{no_damage_holds}
use Rattle.claims_senders.proofs.Undamaged as undamaged
use Rattle.claims_through.specs.Through.{StaysAwake, Ready, sample_of, bits_in, OnRxd, FairLine, CameOrLost, AllEnd, StaysUndamaged, NoDamage, words_came, WordsThrough, Through}
use Rattle.claims_histories.proofs.CountSmall.{since_small}
use Rattle.claims_through.proofs.Steps.{all_levels, all_stays}
use Rattle.claims_through.proofs.Ended.{nine, all_ends, nine_sent}
use Rattle.claims_through.proofs.Spaced.{all_samples, none_spaced}

pub positive : (n : ℕ) → 0 < n → 0 < 2 * n
positive n h = omega arith

-- A count that is its own low 13 bits.
pub whole_small : (v : ℕ) → v ≡ SCBR v → v < 2 ^ 13
whole_small v e = omega arith

each : (a b c : Bool) → a && b && c ≡ true → (a ≡ true) × (b ≡ true) × (c ≡ true)
each true true true h = (refl, refl, refl)
each true true false h = absurd (false≢true h)
each true false c h = absurd (false≢true h)
each false b c h = absurd (false≢true h)

module _ (past es : List Event) (fs : List SentFrame) where
  abbrev m : Module
  m = run past reset_module

  half_ready : Ready m → serial.Ready m.sci
  half_ready r =
      let ones = each m.sci.receiver.last1 m.sci.receiver.last2 m.sci.receiver.last3 r.ones in
      record {
        on =
            record {
              on = r.on;
              awake = r.awake;
              whole = whole_small m.sci.sccr0 (rate_is_all_holds past);
              phase = since_small past (positive (SCBR m.sci.sccr0) r.runs);
            };
        searches = r.searches;
        one1 = ones.0;
        one2 = ones.1;
        one3 = ones.2;
      }

  module _ (h : OnRxd fs es m) where
    r : serial.Ready m.sci
    r = half_ready h.ready

    stays : serial.StaysAwake (all es m) m.sci
    stays = all_stays es m h.ready.on h.ready.awake h.stays

    levels : serial.rxd_in (all es m) ≡ line fs
    levels = all_levels es m ∙ h.levels

    heard_samples : samples_of (sci.ops (all es m) m.sci) ≡ sampled_at (sample_of m) m.sci.prescaler (line fs)
    heard_samples =
        all_samples (all es m) m.sci r.on stays ∙ ap (sampled_at (sample_of m) m.sci.prescaler) levels

    half_ends : CameOrLost (marks.log (all es m) m.sci) (words_sent fs)
    half_ends =
        subst (CameOrLost (marks.log (all es m) m.sci))
        (ap nine (taken m.sci (all es m) fs r stays levels h.fair) ∙ nine_sent (sample_of m) (M m.sci.sccr1) fs h.fair)
        (all_ends (all es m) m.sci stays)

    half_spaced : SpacedFrom (earliest (bits_in m)) (bits_in m) m.sci.receiver.last1 m.sci.receiver.last2 m.sci.receiver.last3 m.sci.receiver.framer none
        (sampled_at (sample_of m) m.sci.prescaler (line fs))
    half_spaced =
        go m.sci.receiver.framer m.sci.receiver.last1 m.sci.receiver.last2 m.sci.receiver.last3 r.searches r.one1 r.one2 r.one3
        (none_spaced (earliest (bits_in m)) (bits_in m) 0 true true true searching (sampled_at (sample_of m) m.sci.prescaler (line fs))
        (clocks_heard.apart (sample_of m) m.sci.prescaler (bits_in m) fs r.on.phase h.fair))
      where
        go : (g : Framer) (a b c : Bool) → g ≡ searching → a ≡ true → b ≡ true → c ≡ true →
            SpacedFrom (earliest (bits_in m)) (bits_in m) true true true searching none (sampled_at (sample_of m) m.sci.prescaler (line fs)) →
            SpacedFrom (earliest (bits_in m)) (bits_in m) a b c g none (sampled_at (sample_of m) m.sci.prescaler (line fs))
        go g a b c e₁ e₂ e₃ e₄ k = rw (e₁, e₂, e₃, e₄) k

fair_line_holds : FairLine
fair_line_holds past es fs h =
    let m : Module = run past reset_module in
    subst
    (SpacedFrom (earliest (bits_in m)) (bits_in m) m.sci.receiver.last1 m.sci.receiver.last2 m.sci.receiver.last3 m.sci.receiver.framer none)
    (sym (ap samples_of (all_ops es m) ∙ heard_samples past es fs h)) (half_spaced past es fs h)

all_end : AllEnd
all_end past es fs h =
    subst (λ (l : List Mark). CameOrLost l (words_sent fs)) (sym (all_log es (run past reset_module))) (half_ends past es fs h)

-- ---- after each event

always_run : (es : List Step) (s : Sci) → Undamaged s → undamaged.Always es s → Undamaged (sci.run es s)
unfolding undamaged.Always sci.run
always_run [] s u h = u
always_run (e ∷ es) s u h = always_run es (sci.step e s) h.0 h.1

always_first : (es fs : List Step) (s : Sci) → undamaged.Always (es ++ fs) s → undamaged.Always es s
unfolding undamaged.Always
always_first [] fs s h = tt
always_first (e ∷ es) fs s h = (h.0, always_first es fs (sci.step e s) h.1)

always_rest : (es fs : List Step) (s : Sci) → undamaged.Always (es ++ fs) s → undamaged.Always fs (sci.run es s)
unfolding undamaged.Always sci.run
always_rest [] fs s h = h
always_rest (e ∷ es) fs s h = always_rest es fs (sci.step e s) h.1

pub all_always : (es : List Event) (m : Module) → Undamaged m.sci → undamaged.Always (all es m) m.sci → StaysUndamaged es m
all_always [] m u h = tt
all_always (e ∷ es) m u h =
    let f : (after e m).sci ≡ sci.run (steps e m) m.sci = follows e m in
    let v : Undamaged (after e m).sci =
    subst Undamaged (sym f) (always_run (steps e m) m.sci u (always_first (steps e m) (all es (after e m)) m.sci h)) in (
      v,
      all_always es (after e m) v
          (subst (undamaged.Always (all es (after e m))) (sym f) (always_rest (steps e m) (all es (after e m)) m.sci h)),
    )

pub none_damaged : NoDamage
none_damaged past es fs h p u =
    let m : Module = run past reset_module in
    all_always es m u (no_damage_holds m.sci (all es m) fs (r past es fs h) (stays past es fs h) (levels past es fs h) h.fair p u)

-- ---- in time

pub stays_on : (es : List Event) (m : Module) → StaysAwake es m → StaysOn es m
stays_on [] m h = tt
stays_on (e ∷ es) m h = (h.0, stays_on es (after e m) h.2)

-- Where none is lost each word comes.
pub all_came : (h : List Mark) (ws : List ℕ) → CameOrLost h ws → lost_in h ≡ 0 → words_came h ≡ ws
unfolding CameOrLost words_came
all_came [] [] c l = refl
all_came [] (w ∷ ws) c l = absurd c
all_came (frame_lost raises ∷ h) [] c l = absurd c
all_came (frame_lost raises ∷ h) (w ∷ ws) c l = absurd (omega (arith, l))
all_came (word_came v ∷ h) [] c l = absurd c
all_came (word_came v ∷ h) (w ∷ ws) c l = ap₂ (λ (u : ℕ) (us : List ℕ). u ∷ us) c.0 (all_came h ws c.1 l)
all_came (status_read ∷ h) ws c l = all_came h ws c l
all_came (word_delivered v ∷ h) ws c l = all_came h ws c l
all_came (was_reset ∷ h) ws c l = absurd c

pub words_through : WordsThrough
words_through past es fs h clear t =
    let m : Module = run past reset_module in
    let none : lost_in (log es m) ≡ 0 =
    deadline (earliest (bits_in m)) past es h.ready.on clear (stays_on es m h.stays) (fair_line_holds past es fs h) t in
    (all_came (log es m) (words_sent fs) (all_end past es fs h) none, none)

pub through : Through
through =
    record { fair_line = fair_line_holds; all_end = all_end; no_damage = none_damaged; words = words_through; figures = (refl, refl) }
