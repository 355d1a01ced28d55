-- L14: the counts of the marks and the run of losses that is open are tied to RDRF, OR, their marks and the account, step by step.
use mathlib.Core.Path.{◌≡◌, refl, ap, sym, subst, ◌∙◌}
use mathlib.Core.Bool.{Bool, true, false, cond, not, ◌&&◌, ◌||◌}
use mathlib.Core.List.{List, [], ◌∷◌, ◌++◌}
use Prim.Native.Nat.{ℕ, ◌%◌}
use native.Mathlib.Omega.{arith}
use Rattle.steps.specs.Bits.{digit}
use Rattle.sci.specs.model.Flags.{OR, RDRF, receive_flags}
use Rattle.sci.specs.claims.Members.{member}
use Rattle.sci.specs.model.Status.{has, mark_seen, fall_seen}
use Rattle.sci.specs.model.Control.{RE}
use Rattle.sci.specs.model.Receiver.{outcome, received}
use Rattle.sci.specs.model.Transmitter.{sent}
use Rattle.sci.specs.claims.Line.{read_status, fresh_if, delivers}
use Rattle.sci.specs.claims.Alike.{Same}
use Rattle.sci.specs.model.Account.{most, more, counting}
use Rattle.sci.specs.model.Serial.{reset_sci, active, due}
use Rattle.sci.specs.claims.History.{Step, reset, clock, reads, writesSccr0, writesSccr1, writesScdr, step, run}
use Rattle.sci.specs.claims.Overrun.{Mark, sample_marks, look_marks, delivery_marks, step_marks, log, has_reset, open_run}
use Rattle.sci.specs.claims.Balance.{Balanced, happens, Balance}
use Rattle.sci.specs.declared.status.Status.{Status}
use Rattle.sci.specs.declared.receiver.Receiver.{Receiver}
use Rattle.sci.specs.declared.receiver.Outcome.{Outcome}
use Rattle.sci.specs.declared.account.Account.{Account}
use Rattle.sci.specs.declared.serial.Sci.{Sci}
use Rattle.sci.proofs.Flagged.{is_set, is_marked, has_flag, set_markSeen, marked_markSeen, set_fallSeen, marked_fallSeen}
use Rattle.sci.proofs.Same.{set_at, marked_at, same_sent}
use Rattle.sci.proofs.Alike.{rdrf_same, or_same}
use Rattle.sci.proofs.Rising.{rdrf_after, or_after}
use Rattle.sci.proofs.Reachable.{turned, clock_turned}
use Rattle.sci.proofs.Written.{Keeps, keeps_sccr0, keeps_sccr1, keeps_scdr}
use Rattle.sci.proofs.Overrun.{mark_after}
use Rattle.sci.proofs.Tallies.{Tally, none, tally, tally_append, Adds, adds, open_append, rising_append, one_rise_holds}
use Rattle.sci.proofs.Holding.{Held, Goes, no, frame, look, fetch}
use Rattle.sci.proofs.OrRises.{rise}

abbrev HeldBy : Bool → Tally → Status → Account → Type 0
HeldBy opn n s a = Held (is_set 6 s) (is_set 3 s) (is_marked 6 s) (is_marked 3 s) opn n a

-- Of a status.
held_same : (s t : Status) (opn : Bool) (n : Tally) (a : Account) → Same s t → HeldBy opn n s a → HeldBy opn n t a
unfolding member
held_same s t opn n a e d =
    rw (← set_at s t e 6 refl, ← set_at s t e 3 refl, ← marked_at s t e 6 refl, ← marked_at s t e 3 refl) d

held_look : (s : Status) (opn : Bool) (n : Tally) (a : Account) → HeldBy opn n s a → HeldBy opn n (mark_seen s) a
held_look s opn n a d =
    rw (set_markSeen 6 s, set_markSeen 3 s, marked_markSeen 6 s, marked_markSeen 3 s)
    (look (is_set 6 s) (is_set 3 s) (is_marked 6 s) (is_marked 3 s) opn n a d)

abbrev fresh : Status → Status → ℕ → List Mark
fresh s t w = delivery_marks (fresh_if (has s RDRF && not (has t RDRF)) w)

held_fetch : (s : Status) (w : ℕ) (opn : Bool) (n : Tally) (a : Account) → HeldBy opn n s a →
    Goes opn n (fresh s (fall_seen s receive_flags) w) (λ o k. HeldBy o k (fall_seen s receive_flags) a)
unfolding member
held_fetch s w opn n a d =
    rw (has_flag 6 s, has_flag 6 (fall_seen s receive_flags), set_fallSeen 6 s receive_flags, set_fallSeen 3 s receive_flags, marked_fallSeen 6 s receive_flags, marked_fallSeen 3 s receive_flags)
    (fetch (is_set 6 s) (is_set 3 s) (is_marked 6 s) (is_marked 3 s) opn w n a d)

-- Nothing is delivered where RDRF stays.
kept : (s t : Status) (w : ℕ) (opn : Bool) (n : Tally) (a : Account) → has t RDRF ≡ has s RDRF → HeldBy opn n t a →
    Goes opn n (fresh s t w) (λ o k. HeldBy o k t a)
kept s t w opn n a e d = rw e (go (has s RDRF))
  where
    go : (b : Bool) → Goes opn n (delivery_marks (fresh_if (b && not b) w)) (λ o k. HeldBy o k t a)
    go true = record { holds = d; rising = tt }
    go false = record { holds = d; rising = tt }

same_rdrf : (s : Status) → has (mark_seen s) RDRF ≡ has s RDRF
same_rdrf s = has_flag 6 (mark_seen s) ∙ set_markSeen 6 s ∙ sym (has_flag 6 s)

held_read : (scsr scdr : Bool) (s : Status) (w : ℕ) (opn : Bool) (n : Tally) (a : Account) → HeldBy opn n s a →
    Goes opn n (look_marks scsr ++ fresh s (read_status scsr scdr s) w) (λ o k. HeldBy o k (read_status scsr scdr s) a)
held_read true true s w opn n a d =
    let g = held_fetch (mark_seen s) w opn n a (held_look s opn n a d) in
    rw (← same_rdrf s) (record { holds = g.holds; rising = g.rising })
held_read true false s w opn n a d =
    let g = kept s (mark_seen s) w opn n a (same_rdrf s) (held_look s opn n a d) in
    record { holds = g.holds; rising = g.rising }
held_read false true s w opn n a d = held_fetch s w opn n a d
held_read false false s w opn n a d = kept s s w opn n a refl d

-- A sample.
lost_full : (r : Receiver) (s : Status) (sccr1 : ℕ) (x : Bool) →
    (outcome r s sccr1 x).lost ≡ (outcome r s sccr1 x).taken && (is_set 6 s || is_set 3 s)
unfolding outcome
lost_full r s sccr1 x = rw (has_flag 6 s, has_flag 3 s)

held_sample : (s : Sci) (t : Status) (x : Bool) (opn : Bool) (n : Tally) (a : Account) → HeldBy opn n t a →
    Goes opn n (sample_marks s t x)
    (λ o k. HeldBy o k (received s.receiver t s.sccr1 x).status (counting a (outcome s.receiver t s.sccr1 x)))
unfolding received
held_sample s t x opn n a d =
    let o : Outcome = outcome s.receiver t s.sccr1 x in
    rw (has_flag 3 t, rdrf_after t o _ _ _, or_after t o _ _ _, mark_after 6 refl t o _ _ _, mark_after 3 refl t o _ _ _, lost_full s.receiver t s.sccr1 x)
    (frame o.taken (is_set 6 t) (is_set 3 t) (is_marked 6 t) (is_marked 3 t) opn (s.receiver.framer.shift % 512) n a d)

abbrev HeldIn : Bool → Tally → Sci → Type 0
HeldIn opn n s = HeldBy opn n s.status s.account

held_turned : (a d on : Bool) (s : Sci) (x : Bool) (opn : Bool) (n : Tally) → HeldIn opn n s →
    Goes opn n (cond (a && d && on) (sample_marks s (sent s.transmitter s.status s.sccr1).status x) [])
    (λ o k. HeldIn o k (turned a d on s x))
held_turned true true true s x opn n h =
    let t : Status = (sent s.transmitter s.status s.sccr1).status in
    held_sample s t x opn n s.account
    (held_same s.status t opn n s.account (same_sent s.transmitter s.status s.sccr1) h)
held_turned true true false s x opn n h =
    let t : Status = (sent s.transmitter s.status s.sccr1).status in
    record { holds = held_same s.status t opn n s.account (same_sent s.transmitter s.status s.sccr1) h; rising = tt }
held_turned true false on s x opn n h = record { holds = h; rising = tt }
held_turned false due on s x opn n h = record { holds = h; rising = tt }

held_keeps : (s t : Sci) (opn : Bool) (n : Tally) → Keeps s t → HeldIn opn n s → HeldIn opn n t
held_keeps s t opn n k h =
    subst (λ (a : Account). HeldBy opn n t.status a) k.account (held_same s.status t.status opn n s.account k.same h)

held_reset : HeldIn false none reset_sci
unfolding member
held_reset =
    record { tied = record { lit = no; full = no; sub = no; both = no }; balance = refl; taken = refl; lost = refl }

held_step : (e : Step) (s : Sci) (opn : Bool) (n : Tally) → HeldIn opn n s → Goes opn n (step_marks e s) (λ o k. HeldIn o k (step e s))
unfolding step delivers
held_step reset s opn n h = record { holds = held_reset; rising = tt }
held_step (clock x) s opn n h =
    rw (clock_turned s x) (held_turned (active s) (due s) (RE s.sccr1) s x opn n h)
held_step (reads scsr scdr) s opn n h = held_read scsr scdr s.status s.receiver.scdr opn n s.account h
held_step (writesSccr0 v upper lower) s opn n h =
    record { holds = held_keeps s _ opn n (keeps_sccr0 s v upper lower) h; rising = tt }
held_step (writesSccr1 v upper lower) s opn n h =
    record { holds = held_keeps s _ opn n (keeps_sccr1 s v upper lower) h; rising = tt }
held_step (writesScdr v upper lower) s opn n h =
    record { holds = held_keeps s _ opn n (keeps_scdr s v upper lower) h; rising = tt }

-- A history.
held_run : (es : List Step) (s : Sci) (opn : Bool) (n : Tally) → HeldIn opn n s → Goes opn n (log es s) (λ o k. HeldIn o k (run es s))
unfolding log run
held_run [] s opn n h = record { holds = h; rising = tt }
held_run (e ∷ es) s opn n h =
    let g = held_step e s opn n h in
    let k = held_run es (step e s) (open_run opn (step_marks e s)) (tally n (step_marks e s)) g.holds in
    record {
      holds =
          rw (open_append (step_marks e s) (log es (step e s)) opn, tally_append (step_marks e s) (log es (step e s)) n) k.holds;
      rising = rising_append (step_marks e s) (log es (step e s)) opn g.rising k.rising;
    }

balanced : (es : List Step) → has_reset (log es reset_sci) ≡ false → Balanced (log es reset_sci) (run es reset_sci)
balanced es e =
    let g = (held_run es reset_sci false none held_reset).holds in
    let k : Adds none (log es reset_sci) = adds (log es reset_sci) none e in
    let w = ap digit (has_flag 6 (run es reset_sci).status) in
    record {
      balance = omega (arith, g.balance, k.taken, k.lost, k.delivered, w);
      taken = omega (arith, g.taken, k.taken);
      lost = omega (arith, g.lost, k.lost);
      counts = λ l. omega (arith, l, g.balance, g.taken, g.lost, k.taken, k.lost, k.delivered, w);
    }

lost : (s : Sci) (x : Bool) → (happens s x).lost ≡ (happens s x).taken && (has s.status RDRF || has s.status OR)
unfolding outcome
lost s x =
    rw (rdrf_same s.status _ (same_sent s.transmitter s.status s.sccr1), or_same s.status _ (same_sent s.transmitter s.status s.sccr1))

stays : (taken lost : Bool) →
    ◌≡◌ {A = Account} (record { taken = more taken most; lost = more lost most }) (record { taken = most; lost = most })
stays true true = refl
stays true false = refl
stays false true = refl
stays false false = refl

pub balance : Balance
balance =
    record {
      balanced = balanced;
      one_rise = λ es. one_rise_holds (log es reset_sci) (held_run es reset_sci false none held_reset).rising;
      lost = lost;
      rise = rise;
      stays = λ o. stays o.taken o.lost;
    }
