-- The clocks of a hold: a word that enters SCDR raises RDRF, and while RDRF is set none enters. Assumes nothing.
use mathlib.Core.Path.{◌≡◌, refl, ap, sym, ◌∙◌}
use mathlib.Core.Bool.{Bool, true, false, cond, not, ◌&&◌, ◌||◌, or-false, true≢false, false≢true}
use mathlib.Core.List.{List, [], ◌∷◌, ◌++◌}
use Prim.Native.Nat.{ℕ, zero, suc, ◌%◌}
use Rattle.sci.specs.model.Flags.{RDRF, OR}
use Rattle.sci.specs.claims.Members.{member}
use Rattle.sci.specs.model.Status.{has}
use Rattle.sci.specs.model.Control.{RE}
use Rattle.sci.specs.model.Framer.{frame_of}
use Rattle.sci.specs.model.Receiver.{outcome, receiver_after, received}
use Rattle.sci.specs.claims.ReceiverClauses.{rises}
use Rattle.sci.specs.model.Transmitter.{sent}
use Rattle.sci.specs.model.Serial.{active, due, clocked}
use Rattle.sci.specs.claims.History.{step, run}
use Rattle.sci.specs.claims.Figure.{enters}
use Rattle.sci.specs.declared.status.Status.{Status}
use Rattle.sci.specs.declared.receiver.Receiver.{Receiver}
use Rattle.sci.specs.declared.serial.Sci.{Sci}
use Rattle.sci.proofs.Flagged.{is_set, has_flag}
use Rattle.sci.proofs.Same.{set_at, same_sent}
use Rattle.sci.proofs.Rising.{rdrf_after}
use Rattle.sci.proofs.Reachable.{turned, clock_turned}
use Rattle.sci.proofs.History.{clocks}
use Rattle.qsm.specs.model.Event.{clock_module}
use Rattle.qsm.specs.declared.state.Module.{Module}
use Rattle.claims_histories.proofs.Follows.{refuted}
use Rattle.claims_words.specs.Words.{Word, comes, brought, clock_words}

abbrev pub full : Sci → Bool
full s = has s.status RDRF

abbrev pub kept : Sci → Word
kept s = record { bits = s.receiver.scdr % 512; figure = s.receiver.noise }

-- The transmitter's part of a sample leaves RDRF.
abbrev sent_status : Sci → Status
sent_status s = (sent s.transmitter s.status s.sccr1).status

sent_full : (s : Sci) → is_set 6 (sent_status s) ≡ is_set 6 s.status
unfolding member
sent_full s = sym (set_at s.status (sent_status s) (same_sent s.transmitter s.status s.sccr1) 6 refl)

abbrev entering : Sci → Bool → Bool
entering s x = enters (outcome s.receiver (sent_status s) s.sccr1 x)

sample_full : (r : Receiver) (t : Status) (sccr1 : ℕ) (x : Bool) →
    is_set 6 (received r t sccr1 x).status ≡ is_set 6 t || enters (outcome r t sccr1 x)
unfolding received
sample_full r t sccr1 x = rdrf_after t (outcome r t sccr1 x) _ _ _

turned_full : (a d on : Bool) (s : Sci) (x : Bool) →
    is_set 6 (turned a d on s x).status ≡ is_set 6 s.status || ((a && d && on) && entering s x)
turned_full true true true s x =
    sample_full s.receiver (sent_status s) s.sccr1 x ∙ ap (λ (b : Bool). b || entering s x) (sent_full s)
turned_full true true false s x = sent_full s ∙ sym (or-false (is_set 6 s.status))
turned_full true false on s x = sym (or-false (is_set 6 s.status))
turned_full false d on s x = sym (or-false (is_set 6 s.status))

clock_full : (s : Sci) (x : Bool) → full (clocked s x) ≡ full s || comes s x
clock_full s x =
    has_flag 6 (clocked s x).status ∙ ap (λ (t : Sci). is_set 6 t.status) (clock_turned s x)
    ∙ turned_full (active s) (due s) (RE s.sccr1) s x ∙ ap (λ (b : Bool). b || comes s x) (sym (has_flag 6 s.status))

-- What enters finds RDRF clear.
not_full : (on taken rdrf or : Bool) → on && (taken && not (taken && (rdrf || or))) ≡ true → rdrf ≡ false
not_full on taken false or e = refl
not_full true true true or e = absurd (false≢true e)
not_full true false true or e = absurd (false≢true e)
not_full false taken true or e = absurd (false≢true e)

clock_free : (s : Sci) (x : Bool) → comes s x ≡ true → full s ≡ false
unfolding outcome
clock_free s x e =
    has_flag 6 s.status ∙ sym (sent_full s) ∙ sym (has_flag 6 (sent_status s))
    ∙ not_full (active s && due s && RE s.sccr1) (outcome s.receiver (sent_status s) s.sccr1 x).taken (has (sent_status s) RDRF) (has (sent_status s) OR) e

-- What stands in SCDR.
turned_kept : (a d on : Bool) (s : Sci) (x : Bool) → kept (turned a d on s x) ≡ cond ((a && d && on) && entering s x) (brought s x) (kept s)
unfolding received receiver_after
turned_kept true true true s x = go (entering s x)
  where
    go : (b : Bool) →
        ◌≡◌ {A = Word}
        (record {
          bits = cond b s.receiver.framer.shift s.receiver.scdr % 512;
          figure = cond b (frame_of s.receiver.framer x).noise s.receiver.noise;
        })
        (cond b (brought s x) (kept s))
    go true = refl
    go false = refl
turned_kept true true false s x = refl
turned_kept true false on s x = refl
turned_kept false d on s x = refl

clock_kept : (s : Sci) (x : Bool) → kept (clocked s x) ≡ cond (comes s x) (brought s x) (kept s)
clock_kept s x = ap kept (clock_turned s x) ∙ turned_kept (active s) (due s) (RE s.sccr1) s x

-- The words of n clocks, of the serial half.
abbrev pub serial_words : ℕ → Bool → Sci → List Word
serial_words zero x s = []
serial_words (suc n) x s = cond (comes s x) (brought s x ∷ []) [] ++ serial_words n x (clocked s x)

pub clock_words_holds : (n : ℕ) (x : Bool) (m : Module) → clock_words n x m ≡ serial_words n x m.sci
unfolding clock_module
clock_words_holds zero x m = refl
clock_words_holds (suc n) x m =
    ap (λ (ws : List Word). cond (comes m.sci x) (brought m.sci x ∷ []) [] ++ ws) (clock_words_holds n x (clock_module x m))

-- From RDRF set on.
record Filled (n : ℕ) (x : Bool) (s : Sci) : Type 0 where
  none : serial_words n x s ≡ []
  stays : full (run (clocks n x) s) ≡ true
  same : kept (run (clocks n x) s) ≡ kept s

filled : (n : ℕ) (x : Bool) (s : Sci) → full s ≡ true → Filled n x s
unfolding run step
filled zero x s h = record { none = refl; stays = h; same = refl }
filled (suc n) x s h =
    let no : comes s x ≡ false = refuted (comes s x) (λ e. true≢false (sym h ∙ clock_free s x e)) in
    let rest : Filled n x (clocked s x) = filled n x (clocked s x) (clock_full s x ∙ rw h) in
    record { none = rw no rest.none; stays = rest.stays; same = rest.same ∙ clock_kept s x ∙ rw no }

-- From RDRF clear on.
emptied : (n : ℕ) (x : Bool) (s : Sci) → full s ≡ false →
    serial_words n x s ≡ cond (full (run (clocks n x) s)) (kept (run (clocks n x) s) ∷ []) []
unfolding run step
emptied zero x s h = rw h
emptied (suc n) x s h = go (comes s x) refl (emptied n x (clocked s x))
  where
    go : (b : Bool) → comes s x ≡ b →
        (full (clocked s x) ≡ false → serial_words n x (clocked s x) ≡ cond (full (run (clocks n x) (clocked s x))) (kept (run (clocks n x) (clocked s x)) ∷ []) []) →
        cond (comes s x) (brought s x ∷ []) [] ++ serial_words n x (clocked s x)
        ≡ cond (full (run (clocks n x) (clocked s x))) (kept (run (clocks n x) (clocked s x)) ∷ []) []
    go true e k =
        let rest : Filled n x (clocked s x) = filled n x (clocked s x) (clock_full s x ∙ rw (h, e)) in
        rw (rest.none, rest.stays, rest.same, clock_kept s x, e)
    go false e k = rw e (k (clock_full s x ∙ rw (h, e)))

pub serial_words_holds : (n : ℕ) (x : Bool) (s : Sci) →
    serial_words n x s ≡ cond (rises (full s) (full (run (clocks n x) s))) (kept (run (clocks n x) s) ∷ []) []
serial_words_holds n x s = go (full s) refl
  where
    go : (b : Bool) → full s ≡ b →
        serial_words n x s ≡ cond (rises (full s) (full (run (clocks n x) s))) (kept (run (clocks n x) s) ∷ []) []
    go true e = rw e (filled n x s e).none
    go false e = rw e (emptied n x s e)
