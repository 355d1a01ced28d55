-- L14: the rises of OR that are marked are those of the flag, step by step.
use mathlib.Core.Path.{◌≡◌, refl, ap, sym, ◌∙◌}
use mathlib.Core.Bool.{Bool, true, false, cond, not, ◌&&◌, ◌||◌, and-false}
use mathlib.Core.List.{[], ◌++◌}
use mathlib.Core.Option.{Option, none as nothing, some}
use Prim.Native.Nat.{ℕ, ◌%◌}
use lib.Dec.{ltb}
use Rattle.sci.specs.model.Flags.{OR, receive_flags}
use Rattle.sci.specs.claims.Members.{member}
use Rattle.sci.specs.model.Status.{has, mark_seen, fall_seen}
use Rattle.sci.specs.model.Control.{RE}
use Rattle.sci.specs.model.Receiver.{outcome, received}
use Rattle.sci.specs.claims.ReceiverClauses.{rises}
use Rattle.sci.specs.model.Transmitter.{sent}
use Rattle.sci.specs.claims.Line.{read, read_status, delivers}
use Rattle.sci.specs.claims.Alike.{Same}
use Rattle.sci.specs.model.Serial.{active, due}
use Rattle.sci.specs.claims.History.{Step, reset, clock, reads, writesSccr0, writesSccr1, writesScdr, step, receiving}
use Rattle.sci.specs.claims.Overrun.{sample_marks, look_marks, delivery_marks, step_marks}
use Rattle.sci.specs.claims.Balance.{rises_in}
use Rattle.sci.specs.declared.status.Status.{Status}
use Rattle.sci.specs.declared.receiver.Outcome.{Outcome}
use Rattle.sci.specs.declared.serial.Sci.{Sci}
use Rattle.sci.proofs.Flagged.{is_set, is_marked, has_flag, set_markSeen, set_fallSeen}
use Rattle.sci.proofs.Same.{same_sent}
use Rattle.sci.proofs.Alike.{or_same}
use Rattle.sci.proofs.Rising.{or_after}
use Rattle.sci.proofs.Reachable.{turned, clock_turned}
use Rattle.sci.proofs.Written.{keeps_sccr0, keeps_sccr1, keeps_scdr}
use Rattle.sci.proofs.Holding.{frame_marks}

lost_rises : (taken lost or : Bool) (w : ℕ) → rises or (or || lost) ≡ ltb 0 (rises_in (frame_marks taken lost or w))
lost_rises taken true true w = refl
lost_rises taken true false w = refl
lost_rises true false true w = refl
lost_rises true false false w = refl
lost_rises false false true w = refl
lost_rises false false false w = refl

none_rises : (or : Bool) → rises or or ≡ false
none_rises true = refl
none_rises false = refl

same_rises : (s t : Status) → Same s t → rises (has s OR) (has t OR) ≡ false
same_rises s t e = rw (← or_same s t e) (none_rises (has s OR))

sample_rises : (s : Sci) (t : Status) (x : Bool) →
    rises (has t OR) (has (received s.receiver t s.sccr1 x).status OR) ≡ ltb 0 (rises_in (sample_marks s t x))
unfolding received
sample_rises s t x =
    let o : Outcome = outcome s.receiver t s.sccr1 x in
    ap (rises (has t OR)) (has_flag 3 _ ∙ or_after t o _ _ _ ∙ ap (λ (b : Bool). b || o.lost) (sym (has_flag 3 t)))
    ∙ lost_rises o.taken o.lost (has t OR) (s.receiver.framer.shift % 512)

turned_rises : (a d on : Bool) (s : Sci) (x : Bool) →
    rises (has s.status OR) (has (turned a d on s x).status OR)
    ≡ ltb 0 (rises_in (cond (a && d && on) (sample_marks s (sent s.transmitter s.status s.sccr1).status x) []))
turned_rises true true true s x =
    rw (or_same s.status _ (same_sent s.transmitter s.status s.sccr1))
    (sample_rises s (sent s.transmitter s.status s.sccr1).status x)
turned_rises true true false s x = same_rises s.status _ (same_sent s.transmitter s.status s.sccr1)
turned_rises true false on s x = none_rises (has s.status OR)
turned_rises false due on s x = none_rises (has s.status OR)

delivery_rises : (f : Option ℕ) → rises_in (delivery_marks f) ≡ 0
delivery_rises (some w) = refl
delivery_rises nothing = refl

read_marks : (scsr : Bool) (f : Option ℕ) → rises_in (look_marks scsr ++ delivery_marks f) ≡ 0
read_marks true f = delivery_rises f
read_marks false f = delivery_rises f

falls_only : (or seen : Bool) → rises or (or && not (or && seen && true)) ≡ false
falls_only true seen = refl
falls_only false seen = refl

fetch_rises : (s : Status) → rises (has s OR) (has (fall_seen s receive_flags) OR) ≡ false
unfolding member
fetch_rises s =
    rw (has_flag 3 s, has_flag 3 (fall_seen s receive_flags), set_fallSeen 3 s receive_flags) (falls_only (is_set 3 s) (is_marked 3 s))

look_or : (s : Status) → has (mark_seen s) OR ≡ has s OR
look_or s = has_flag 3 (mark_seen s) ∙ set_markSeen 3 s ∙ sym (has_flag 3 s)

read_rises : (scsr scdr : Bool) (s : Status) → rises (has s OR) (has (read_status scsr scdr s) OR) ≡ false
read_rises true true s = rw (← look_or s) (fetch_rises (mark_seen s))
read_rises true false s = rw (look_or s) (none_rises (has s OR))
read_rises false true s = fetch_rises s
read_rises false false s = none_rises (has s OR)

pub rise : (e : Step) (s : Sci) → rises (has s.status OR) (has (step e s).status OR) ≡ ltb 0 (rises_in (step_marks e s))
unfolding step has
rise reset s = and-false (not (has s.status OR))
rise (clock x) s = rw (clock_turned s x) (turned_rises (active s) (due s) (RE s.sccr1) s x)
rise (reads scsr scdr) s =
    rw (read_marks scsr (delivers (read scsr scdr) (receiving s))) (read_rises scsr scdr s.status)
rise (writesSccr0 v upper lower) s = same_rises _ _ (keeps_sccr0 s v upper lower).same
rise (writesSccr1 v upper lower) s = same_rises _ _ (keeps_sccr1 s v upper lower).same
rise (writesScdr v upper lower) s = same_rises _ _ (keeps_scdr s v upper lower).same
