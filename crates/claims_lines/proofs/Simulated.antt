-- Lines gathered from polls are those of the account of what happened. Assumes nothing.
use mathlib.Core.Path.{◌≡◌, refl, ap, sym, subst, ◌∙◌}
use mathlib.Core.Bool.{Bool, false}
use mathlib.Core.List.{List, [], ◌∷◌, ◌++◌, append_assoc}
use mathlib.Core.Option.{Option, none, some}
use Prim.Native.Nat.{ℕ}
use Rattle.sci.specs.claims.History as sci
use Rattle.sci.proofs.History.{clocks}
use Rattle.qsm.specs.model.Event.{held}
use Rattle.qsm.specs.claims.StatusFlags.{SCI, status}
use Rattle.qsm.specs.declared.state.Module.{Module}
use Rattle.qsm.specs.declared.event.Event.{Event}
use Rattle.qsm.specs.declared.event.Event.TheVariants.{Reset, Hold}
use Rattle.qsm.specs.declared.event.Event.TheVariants as event
use Rattle.claims_histories.specs.History.{after, run, played_clocks}
use Rattle.claims_histories.proofs.Follows.{follows}
use Rattle.tool_lines.specs.Poll.{data_read, poll_events, looked, polled}
use Rattle.tool_lines.specs.Schedule.{Act, plays, polls, reaches}
use Rattle.tool_lines.specs.Gather.{Report, shown, forgotten, reported, gather}
use Rattle.tool_lines.specs.Replay.{events_of, notices}
use Rattle.tool_lines.specs.declared.line.Line.{Line}
use Rattle.tool_lines.specs.declared.line.Gathered.{Gathered}
use Rattle.tool_lines.specs.declared.poll.Polled.{Polled}
use Rattle.claims_lines.specs.Happened.{Damage, Happening, event_happens, happened}
use Rattle.claims_lines.specs.Happened as happening
use Rattle.claims_lines.proofs.Slots.{Slot, slot_of, empty, holding}
use Rattle.claims_lines.proofs.Account.{Account, restarted, next, tells, account}
use Rattle.claims_lines.proofs.Stands.{Match, pended, Stands, clear, waits, Done, hold_happens, hold_done, stands_reset}
use Rattle.claims_lines.proofs.Gathering.{Agrees, word_noticed, none_noticed}
use Rattle.claims_lines.proofs.Polls.{quiet_polled, quiet_events, quiet_happened, quiet_slot, quiet_shows, word_polled, word_events, word_happened, word_slot, word_shows}
use Rattle.claims_lines.proofs.Played.{Untouched, untouched, reset_slot}

pub happened_joined : (es fs : List Event) (m : Module) → happened (es ++ fs) m ≡ happened es m ++ happened fs (run es m)
unfolding run happened
happened_joined [] fs m = refl
happened_joined (e ∷ es) fs m =
    ap (λ (h : List Happening). event_happens e m ++ h) (happened_joined es fs (after e m))
    ∙ sym (append_assoc (event_happens e m) (happened es (after e m)) (happened fs (run es (after e m))))

-- No access of the list touches SCSR or SCDR.
abbrev pub Apart : Event → Type 0
Apart Reset = Unit {0}
Apart (Hold pins rxd n) = Unit {0}
Apart (event.Access a) = reaches a ≡ false

abbrev pub Plays : List Act → Type 0
Plays [] = Unit {0}
Plays (plays e ∷ rest) = Apart e × Plays rest
Plays (polls ∷ rest) = Plays rest

-- ---- a poll, and then the rest

done_status : (out : List Report) (a : Account) (q : Option ℕ) (h : List Happening) → Done out a q h → Done out a q (happening.status_read ∷ h)
unfolding account
done_status out a q h k = record { reports = k.reports; turn = k.turn }

done_delivered : (out : List Report) (a : Account) (w : ℕ) (h : List Happening) → Done out (next a (happening.word_delivered w)) none h →
    Done (tells a (happening.word_delivered w) ++ out) a (some w) (happening.word_delivered w ∷ h)
unfolding account
done_delivered out a w h k =
    record { reports = ap (λ (rs : List Report). tells a (happening.word_delivered w) ++ rs) k.reports; turn = (refl, k.turn) }

abbrev shown_by : Line → Polled → Gathered
shown_by l p = shown l p.status p.word

-- What a poll and the notices after it report.
abbrev reports_of : Gathered → (Line → List Report) → List Report
reports_of g rest = reported g.line g.outcome ++ rest g.line

module _ (m : Module) (l : Line) (rest : Module → Line → List Report) (later : Module → List Happening)
    (k : (n : Module) (j : Line) (b : Account) (p : Option ℕ) → Stands (slot_of n.sci) j b p → Done (rest n j) b p (later n)) where
  quiet_done : (a : Account) (u : ℕ) → slot_of m.sci ≡ empty u → Match l a →
      Done (reports_of (shown_by l (polled m)) (rest (polled m).state)) a none (happened (poll_events m) m ++ later (polled m).state)
  quiet_done a u e t =
      let s = quiet_shows m u e in
      let g : Agrees (shown l (status m SCI) 0) [] a = none_noticed l a (status m SCI) 0 t s.0 s.1 in
      let j : Line = (shown l (status m SCI) 0).line in
      let d : Done (rest (looked m) j) a none (later (looked m)) =
      k (looked m) j a none (subst (λ (v : Slot). Stands v j a none) (sym (quiet_slot m u e)) (clear u g.match)) in
      rw (quiet_polled m u e, quiet_events m u e, quiet_happened m u e)
      (subst (λ (rs : List Report). Done (rs ++ rest (looked m) j) a none (happening.status_read ∷ later (looked m))) (sym g.told)
      (done_status (rest (looked m) j) a none (later (looked m)) d))

  word_done : (a : Account) (w : ℕ) (d : Damage) (over : Bool) → slot_of m.sci ≡ holding w d over → Match l a →
      Done (reports_of (shown_by l (polled m)) (rest (polled m).state)) (pended a w d over) (some w)
      (happened (poll_events m) m ++ later (polled m).state)
  word_done a w d over e t =
      let b : Account = pended a w d over in
      let n : Module = after data_read (looked m) in
      let g : Agrees (shown l (status m SCI) w) (tells b (happening.word_delivered w)) (next b (happening.word_delivered w)) =
      word_noticed l a t w d over (status m SCI) (word_shows m w d over e) in
      let j : Line = (shown l (status m SCI) w).line in
      let c : Account = next b (happening.word_delivered w) in
      let r : Done (rest n j) c none (later n) =
      k n j c none (subst (λ (v : Slot). Stands v j c none) (sym (word_slot m w d over e)) (clear w g.match)) in
      rw (word_polled m w d over e, word_events m w d over e, word_happened m w d over e)
      (subst (λ (rs : List Report). Done (rs ++ rest n j) b (some w) (happening.status_read ∷ (happening.word_delivered w ∷ later n))) (sym g.told)
      (done_status (tells b (happening.word_delivered w) ++ rest n j) b (some w) (happening.word_delivered w ∷ later n)
      (done_delivered (rest n j) b w (later n) r)))

  poll_done : (v : Slot) (a : Account) (q : Option ℕ) → slot_of m.sci ≡ v → Stands v l a q →
      Done (reports_of (shown_by l (polled m)) (rest (polled m).state)) a q (happened (poll_events m) m ++ later (polled m).state)
  poll_done v a q e (clear u t) = quiet_done a u e t
  poll_done v a q e (waits w d over b t) = word_done b w d over e t

-- ---- an event, and then the rest

done_reset : (out : List Report) (a : Account) (q : Option ℕ) (h : List Happening) → Done out (restarted a) none h →
    Done out a q (happening.was_reset ∷ h)
unfolding account
done_reset out a none h k = record { reports = k.reports; turn = k.turn }
done_reset out a (some w) h k = record { reports = k.reports; turn = k.turn }

pub hold_slot : (pins : ℕ) (rxd : Bool) (n : ℕ) (m : Module) → slot_of (after (Hold pins rxd n) m).sci ≡ slot_of (sci.run (clocks (played_clocks m n) rxd) m.sci)
hold_slot pins rxd n m = ap slot_of (follows (Hold pins rxd n) m)

poll_left : (m : Module) (v : Slot) (l : Line) (a : Account) (q : Option ℕ) → slot_of m.sci ≡ v → Stands v l a q →
    run (poll_events m) m ≡ (polled m).state
unfolding run
poll_left m v l a q e (clear u t) = rw (quiet_events m u e, quiet_polled m u e)
poll_left m v l a q e (waits w d over b t) = rw (word_events m w d over e, word_polled m w d over e)

pub simulated : (acts : List Act) (m : Module) (l : Line) (a : Account) (q : Option ℕ) → Plays acts → Stands (slot_of m.sci) l a q →
    Done (gather l (notices acts m)) a q (happened (events_of acts m) m)
unfolding gather notices events_of happened account
simulated [] m l a q p s = record { reports = refl; turn = tt }
simulated (plays Reset ∷ rest) m l a q p s =
    done_reset (gather (forgotten l) (notices rest (after Reset m))) a q (happened (events_of rest (after Reset m)) (after Reset m))
    (simulated rest (after Reset m) (forgotten l) (restarted a) none p.1
    (subst (λ (v : Slot). Stands v (forgotten l) (restarted a) none) (sym (reset_slot m)) (clear 0 (stands_reset (slot_of m.sci) l a q s))))
simulated (plays (Hold pins rxd n) ∷ rest) m l a q p s =
    let o : Module = after (Hold pins rxd n) m in
    rw (hold_happens (played_clocks m n) rxd (held m pins))
    (hold_done (played_clocks m n) rxd m.sci l a q (gather l (notices rest o)) (happened (events_of rest o) o) s
    (λ b r u. simulated rest o l b r p.1 (subst (λ (v : Slot). Stands v l b r) (sym (hold_slot pins rxd n m)) u)))
simulated (plays (event.Access x) ∷ rest) m l a q p s =
    let o : Module = after (event.Access x) m in
    let t : Untouched x m = untouched x m p.0 in
    rw t.none (simulated rest o l a q p.1 (subst (λ (v : Slot). Stands v l a q) (sym t.slot) s))
simulated (polls ∷ rest) m l a q p s =
    subst (λ (h : List Happening). Done (gather l (notices (polls ∷ rest) m)) a q h)
    (sym (happened_joined (poll_events m) (events_of rest (polled m).state) m
    ∙ ap (λ (n : Module). happened (poll_events m) m ++ happened (events_of rest (polled m).state) n) (poll_left m (slot_of m.sci) l a q refl s)))
    (poll_done m l (λ n j. gather j (notices rest n)) (λ n. happened (events_of rest n) n)
    (λ n j b r u. simulated rest n j b r p u) (slot_of m.sci) a q refl s)
