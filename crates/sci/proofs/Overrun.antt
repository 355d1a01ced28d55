-- Demand 3, second half, of the serial half: the automaton of the marks is tied to OR and its mark, step by step.
use mathlib.Core.Path.{◌≡◌, refl, sym, subst, ◌∙◌}
use mathlib.Core.Bool.{Bool, true, false, cond, not, ◌&&◌, ◌||◌, and-false, or-false, true≢false, false≢true}
use mathlib.Core.List.{List, [], ◌∷◌, ◌++◌}
use mathlib.Core.Option.{Option, none, some}
use Prim.Native.Nat.{ℕ, ◌%◌}
use lib.Dec.{ltb}
use Rattle.steps.specs.Bits.{bit}
use Rattle.sci.specs.model.Flags.{PF, FE, NF, OR, RDRF, receive_flags}
use Rattle.sci.specs.claims.Members.{member}
use Rattle.sci.specs.model.Status.{has, raise_if, mark_seen, fall_seen}
use Rattle.sci.specs.model.Control.{RE}
use Rattle.sci.specs.model.Receiver.{full, outcome, raised, entered, status_after, received}
use Rattle.sci.specs.model.Transmitter.{sent}
use Rattle.sci.specs.claims.Line.{read, read_status, delivers}
use Rattle.sci.specs.claims.Alike.{Same}
use Rattle.sci.specs.model.Serial.{reset_sci, active, due}
use Rattle.sci.specs.claims.History.{Step, reset, clock, reads, writesSccr0, writesSccr1, writesScdr, step, receiving}
use Rattle.sci.specs.claims.Overrun.{Mark, frame_lost, word_came, sample_marks, look_marks, delivery_marks, step_marks, log, Overrun}
use Rattle.sci.specs.declared.status.Status.{Status}
use Rattle.sci.specs.declared.framer.Frame.{Frame}
use Rattle.sci.specs.declared.receiver.Receiver.{Receiver}
use Rattle.sci.specs.declared.receiver.Outcome.{Outcome}
use Rattle.sci.specs.declared.serial.Sci.{Sci}
use Rattle.sci.proofs.Flagged.{is_set, is_marked, has_flag, set_raise, marked_raise, set_raiseIf, marked_raiseIf, set_markSeen, marked_markSeen, set_fallSeen, marked_fallSeen, raise_keeps}
use Rattle.sci.proofs.Same.{set_at, marked_at, same_sent}
use Rattle.sci.proofs.Written.{keeps_sccr0, keeps_sccr1, keeps_scdr}
use Rattle.sci.proofs.Samples.{status_set, status_marked}
use Rattle.sci.proofs.Reachable.{turned, clock_turned}
use Rattle.sci.proofs.Automaton.{Okay, overrun_of}

-- OR by two bools: `or`, whether it is set, and `seen`, whether it is marked.
pub record Tied (or seen owed opn : Bool) : Type 0 where
  pub hot : owed ≡ true → (or ≡ true) × (seen ≡ false)
  pub lit : or ≡ true → opn ≡ true
  pub sub : seen ≡ true → or ≡ true

abbrev pub TiedTo : Status → Bool → Bool → Type 0
TiedTo s owed opn = Tied (is_set 3 s) (is_marked 3 s) owed opn

pub tied_same : (s t : Status) (owed opn : Bool) → Same s t → TiedTo s owed opn → TiedTo t owed opn
unfolding member
tied_same s t owed opn e d =
    subst (λ (o : Bool). Tied o (is_marked 3 t) owed opn) (set_at s t e 3 refl)
    (subst (λ (m : Bool). Tied (is_set 3 s) m owed opn) (marked_at s t e 3 refl) d)

-- A status read pays the debt.
look : (or seen owed opn : Bool) → Tied or seen owed opn → Tied or (seen || or) false opn
look or seen owed opn d =
    record { hot = λ e. absurd (false≢true e); lit = d.lit; sub = λ e. go or seen d.sub e }
  where
    go : (or seen : Bool) → (seen ≡ true → or ≡ true) → seen || or ≡ true → or ≡ true
    go or true f e = f refl
    go or false f e = e

pub tied_look : (s : Status) (owed opn : Bool) → TiedTo s owed opn → TiedTo (mark_seen s) false opn
tied_look s owed opn d =
    rw (set_markSeen 3 s, marked_markSeen 3 s) (look (is_set 3 s) (is_marked 3 s) owed opn d)

-- A data read lets OR fall only where it was seen.
fetch : (or seen owed opn : Bool) → Tied or seen owed opn →
    Tied (or && not (or && seen && true)) (seen && not (or && seen && true)) owed opn
fetch true true true opn d = absurd (true≢false (d.hot refl).1)
fetch true true false opn d =
    record { hot = λ e. absurd (false≢true e); lit = λ e. absurd (false≢true e); sub = λ e. e }
fetch true false owed opn d = d
fetch false true owed opn d = absurd (false≢true (d.sub refl))
fetch false false owed opn d = d

pub tied_fetch : (s : Status) (owed opn : Bool) → TiedTo s owed opn → TiedTo (fall_seen s receive_flags) owed opn
unfolding member
tied_fetch s owed opn d =
    rw (set_fallSeen 3 s receive_flags, marked_fallSeen 3 s receive_flags) (fetch (is_set 3 s) (is_marked 3 s) owed opn d)

-- A sample: OR rises with a lost frame alone.
or_raised : (s : Status) (f : Frame) (bad : Bool) → is_set 3 (raised s f bad) ≡ is_set 3 s
unfolding raised member
or_raised s f bad =
    raise_keeps 3 bad _ PF refl ∙ raise_keeps 3 (not f.stop) _ FE refl ∙ raise_keeps 3 (ltb 0 f.noise) _ NF refl
    ∙ set_raise 3 s RDRF ∙ or-false (is_set 3 s)

or_entered : (b : Bool) (s : Status) (f : Frame) (bad : Bool) → is_set 3 (entered b s f bad) ≡ is_set 3 s
unfolding entered
or_entered true s f bad = or_raised s f bad
or_entered false s f bad = refl

-- No mark changes.
mark_raised : (k : ℕ) (s : Status) (f : Frame) (bad : Bool) → is_marked k (raised s f bad) ≡ is_marked k s
unfolding raised
mark_raised k s f bad =
    marked_raiseIf k bad _ PF ∙ marked_raiseIf k (not f.stop) _ FE ∙ marked_raiseIf k (ltb 0 f.noise) _ NF ∙ marked_raise k s RDRF

mark_entered : (k : ℕ) (b : Bool) (s : Status) (f : Frame) (bad : Bool) → is_marked k (entered b s f bad) ≡ is_marked k s
unfolding entered
mark_entered k true s f bad = mark_raised k s f bad
mark_entered k false s f bad = refl

or_after : (s : Status) (o : Outcome) (f : Frame) (bad idles : Bool) →
    is_set 3 (status_after s o f bad idles) ≡ is_set 3 s || (o.lost && true)
unfolding member
or_after s o f bad idles =
    status_set 3 s o f bad idles refl (and-false idles)
    ∙ or_entered (o.taken && not o.lost) (raise_if o.lost s OR) f bad
    ∙ set_raiseIf 3 o.lost s OR

pub mark_after : (k : ℕ) → bit k 32 ≡ false → (s : Status) (o : Outcome) (f : Frame) (bad idles : Bool) →
    is_marked k (status_after s o f bad idles) ≡ is_marked k s
mark_after k e s o f bad idles =
    status_marked k s o f bad idles e
    ∙ mark_entered k (o.taken && not o.lost) (raise_if o.lost s OR) f bad
    ∙ marked_raiseIf k o.lost s OR

-- A taken frame, lost or not, and its mark.
okay_taken : (lost taken or seen owed opn : Bool) (w : ℕ) (h : List Mark) → Tied or seen owed opn →
    (taken ≡ true → lost ≡ false → or ≡ false) → ((o p : Bool) → Tied (or || (lost && true)) seen o p → Okay o p h) →
    Okay owed opn (cond lost (frame_lost (not or) ∷ []) (cond taken (word_came w ∷ []) []) ++ h)
okay_taken true taken true seen owed opn w h d f k = (
  λ e. absurd (true≢false (sym (d.lit refl) ∙ e)),
  k owed true (record { hot = d.hot; lit = λ e. refl; sub = λ e. refl }),
)
okay_taken true taken false seen owed opn w h d f k = (
  λ e. refl,
  k true true (record { hot = λ e. (refl, off seen d.sub); lit = λ e. refl; sub = λ e. refl }),
)
  where
    off : (seen : Bool) → (seen ≡ true → false ≡ true) → seen ≡ false
    off true g = absurd (false≢true (g refl))
    off false g = refl
okay_taken false true true seen owed opn w h d f k = absurd (true≢false (f refl refl))
okay_taken false true false seen owed opn w h d f k = (
  free owed d.hot,
  k owed false (record { hot = d.hot; lit = λ e. absurd (false≢true e); sub = d.sub }),
)
  where
    free : (owed : Bool) → (owed ≡ true → (false ≡ true) × (seen ≡ false)) → owed ≡ false
    free true g = absurd (false≢true (g refl).0)
    free false g = refl
okay_taken false false true seen owed opn w h d f k = k owed opn d
okay_taken false false false seen owed opn w h d f k = k owed opn d

not_full : (taken rdrf or : Bool) → taken ≡ true → taken && (rdrf || or) ≡ false → or ≡ false
not_full taken rdrf false t e = refl
not_full true true true t e = absurd (true≢false e)
not_full true false true t e = absurd (true≢false e)
not_full false rdrf true t e = absurd (false≢true t)

lost_full : (r : Receiver) (s : Status) (sccr1 : ℕ) (x : Bool) →
    (outcome r s sccr1 x).lost ≡ (outcome r s sccr1 x).taken && full s
unfolding outcome
lost_full r s sccr1 x = refl

okay_sample : (s : Sci) (t : Status) (x : Bool) (h : List Mark) (owed opn : Bool) → TiedTo t owed opn →
    ((o p : Bool) → TiedTo (received s.receiver t s.sccr1 x).status o p → Okay o p h) →
    Okay owed opn (sample_marks s t x ++ h)
unfolding received
okay_sample s t x h owed opn d k =
    let r : Receiver = s.receiver in
    let o : Outcome = outcome r t s.sccr1 x in
    rw (has_flag 3 t)
    (okay_taken o.lost o.taken (is_set 3 t) (is_marked 3 t) owed opn (r.framer.shift % 512) h d
    (λ a b. sym (has_flag 3 t) ∙ not_full o.taken (has t RDRF) (has t OR) a (sym (lost_full r t s.sccr1 x) ∙ b))
    (λ a b c.
    k a b
    (subst (λ (z : Bool). Tied z (is_marked 3 (received r t s.sccr1 x).status) a b) (sym (or_after t o _ _ _))
    (subst (λ (z : Bool). Tied (is_set 3 t || (o.lost && true)) z a b) (sym (mark_after 3 refl t o _ _ _)) c))))

okay_turned : (a d on : Bool) (s : Sci) (x : Bool) (h : List Mark) (owed opn : Bool) → TiedTo s.status owed opn →
    ((o p : Bool) → TiedTo (turned a d on s x).status o p → Okay o p h) →
    Okay owed opn (cond (a && d && on) (sample_marks s (sent s.transmitter s.status s.sccr1).status x) [] ++ h)
okay_turned true true true s x h owed opn d k =
    let t : Status = (sent s.transmitter s.status s.sccr1).status in
    okay_sample s t x h owed opn
    (tied_same s.status t owed opn (same_sent s.transmitter s.status s.sccr1) d) k
okay_turned true true false s x h owed opn d k =
    let t : Status = (sent s.transmitter s.status s.sccr1).status in
    k owed opn (tied_same s.status t owed opn (same_sent s.transmitter s.status s.sccr1) d)
okay_turned true false on s x h owed opn d k = k owed opn d
okay_turned false due on s x h owed opn d k = k owed opn d

okay_delivery : (f : Option ℕ) (h : List Mark) (owed opn : Bool) → Okay owed opn h → Okay owed opn (delivery_marks f ++ h)
okay_delivery (some w) h owed opn k = k
okay_delivery none h owed opn k = k

okay_read : (scsr scdr : Bool) (s : Status) (f : Option ℕ) (h : List Mark) (owed opn : Bool) → TiedTo s owed opn →
    ((o p : Bool) → TiedTo (read_status scsr scdr s) o p → Okay o p h) → Okay owed opn ((look_marks scsr ++ delivery_marks f) ++ h)
okay_read true true s f h owed opn d k =
    okay_delivery f h false opn (k false opn (tied_fetch (mark_seen s) false opn (tied_look s owed opn d)))
okay_read true false s f h owed opn d k = okay_delivery f h false opn (k false opn (tied_look s owed opn d))
okay_read false true s f h owed opn d k = okay_delivery f h owed opn (k owed opn (tied_fetch s owed opn d))
okay_read false false s f h owed opn d k = okay_delivery f h owed opn (k owed opn d)

pub tied_reset : TiedTo reset_sci.status false false
unfolding member
tied_reset = record { hot = λ e. absurd (false≢true e); lit = λ e. absurd (false≢true e); sub = λ e. e }

-- One step: what the automaton says of the marks to come, it says with this step's marks in front.
pub okay_step : (e : Step) (s : Sci) (h : List Mark) (owed opn : Bool) → TiedTo s.status owed opn →
    ((o p : Bool) → TiedTo (step e s).status o p → Okay o p h) → Okay owed opn (step_marks e s ++ h)
unfolding step
okay_step reset s h owed opn d k = k false false tied_reset
okay_step (clock x) s h owed opn d k =
    okay_turned (active s) (due s) (RE s.sccr1) s x h owed opn d
    (λ o p c. k o p (rw (clock_turned s x) c))
okay_step (reads scsr scdr) s h owed opn d k =
    okay_read scsr scdr s.status (delivers (read scsr scdr) (receiving s)) h owed opn d k
okay_step (writesSccr0 v upper lower) s h owed opn d k = k owed opn (tied_same _ _ owed opn (keeps_sccr0 s v upper lower).same d)
okay_step (writesSccr1 v upper lower) s h owed opn d k = k owed opn (tied_same _ _ owed opn (keeps_sccr1 s v upper lower).same d)
okay_step (writesScdr v upper lower) s h owed opn d k = k owed opn (tied_same _ _ owed opn (keeps_scdr s v upper lower).same d)

okay_log : (es : List Step) (s : Sci) (owed opn : Bool) → TiedTo s.status owed opn → Okay owed opn (log es s)
unfolding log
okay_log [] s owed opn d = tt
okay_log (e ∷ es) s owed opn d =
    okay_step e s (log es (step e s)) owed opn d (λ o p c. okay_log es (step e s) o p c)

pub overrun : (es : List Step) → Overrun (log es reset_sci)
overrun es = overrun_of (log es reset_sci) (okay_log es reset_sci false false tied_reset)
