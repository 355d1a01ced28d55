-- The claims, from the account of what happened. Assumes nothing.
use mathlib.Core.Path.{◌≡◌, refl, ap, sym, subst, ◌∙◌}
use mathlib.Core.Bool.{Bool, true, false, cond}
use mathlib.Core.List.{List, [], ◌∷◌, ◌++◌, append_assoc}
use mathlib.Core.Option.{Option, none, some}
use Prim.Native.Nat.{ℕ, suc, ◌%◌}
use lib.Dec.{eqb}
use lib.ListN.{length, length-replicate}
use Rattle.sci.specs.claims.Members.{member}
use Rattle.qsm.specs.model.State.{reset_module}
use Rattle.tool_lines.specs.Schedule.{scheduled}
use Rattle.tool_lines.specs.Gather.{Report, handed, dropped, most}
use Rattle.tool_lines.specs.Replay.{first_line, lines}
use Rattle.claims_lines.specs.Happened.{Damage, Happening, frame_lost, word_came, status_read, word_delivered, was_reset}
use Rattle.claims_lines.specs.Segment.{ends, ended_in, numbered}
use Rattle.claims_lines.specs.Claims.{heard, AllTold, FromWire, number_of, Once}
use Rattle.claims_lines.specs.Claims as claims
use Rattle.claims_lines.proofs.Slots.{slot_of}
use Rattle.claims_lines.proofs.Account.{Account, fresh, closing, growing, counted, report, next, account, InTurn}
use Rattle.claims_lines.proofs.Stands.{Stands, clear, Done, first_match}
use Rattle.claims_lines.proofs.Simulated.{simulated}
use Rattle.claims_lines.proofs.Scheduled.{scheduled_plays}
use Rattle.claims_lines.proofs.Underway.{Inv}
use Rattle.claims_lines.proofs.Wire.{first_inv, inv_lost, inv_status, inv_came, inv_delivered, inv_reset, told_report}

-- A replay from reset on.
starts : Stands (slot_of reset_module.sci) first_line fresh none
unfolding reset_module member
starts = clear 0 (first_match first_line fresh refl refl refl refl refl (length-replicate {A = ℕ} most 0))

pub by_account : (period : ℕ) (t : List ℕ) → Done (lines period t) fresh none (heard period t)
by_account period t =
    simulated (scheduled period 0 0 t).acts reset_module first_line fresh none (scheduled_plays period 0 0 t) starts

-- ---- every report is of a line on the wire

told_one : (b : Bool) (h : List Happening) (r : Report) (rs : List Report) → (b ≡ true → claims.Told h r) → AllTold h rs →
    AllTold h (cond b (r ∷ []) [] ++ rs)
told_one true h r rs f k = (f refl, k)
told_one false h r rs f k = k

onward : (p h : List Happening) (e : Happening) (a : Account) → AllTold ((p ++ (e ∷ [])) ++ h) (account (next a e) h) →
    AllTold (p ++ (e ∷ h)) (account (next a e) h)
onward p h e a k = subst (λ (l : List Happening). AllTold l (account (next a e) h)) (append_assoc p (e ∷ []) h) k

pub all_told : (h p : List Happening) (a : Account) (q : Option ℕ) → Inv p a q → InTurn q h → AllTold (p ++ h) (account a h)
unfolding account
all_told [] p a q i t = tt
all_told (frame_lost raises ∷ h) p a q i t =
    onward p h (frame_lost raises) a (all_told h (p ++ (frame_lost raises ∷ [])) (next a (frame_lost raises)) q (inv_lost p a q raises i) t)
all_told (word_came w d ∷ h) p a none i t =
    onward p h (word_came w d) a (all_told h (p ++ (word_came w d ∷ [])) (next a (word_came w d)) (some w) (inv_came p a w d i) t)
all_told (word_came w d ∷ h) p a (some v) i t = absurd t
all_told (status_read ∷ h) p a q i t =
    onward p h status_read a (all_told h (p ++ (status_read ∷ [])) a q (inv_status p a q i) t)
all_told (word_delivered w ∷ h) p a none i t = absurd t
all_told (word_delivered w ∷ h) p a (some v) i t =
    told_one (ends w) (p ++ (word_delivered w ∷ h)) (report a) (account (next a (word_delivered w)) h)
    (λ e. told_report p (word_delivered w ∷ h) a w e (i.closed w (ap some (sym t.0)) e))
    (onward p h (word_delivered w) a
    (all_told h (p ++ (word_delivered w ∷ [])) (next a (word_delivered w)) none (inv_delivered p a (some v) w i) t.1))
all_told (was_reset ∷ h) p a none i t =
    onward p h was_reset a (all_told h (p ++ (was_reset ∷ [])) (next a was_reset) none (inv_reset p a none i) t)
all_told (was_reset ∷ h) p a (some v) i t =
    onward p h was_reset a (all_told h (p ++ (was_reset ∷ [])) (next a was_reset) none (inv_reset p a (some v) i) t)

pub from_wire_holds : FromWire
from_wire_holds period t =
    let d : Done (lines period t) fresh none (heard period t) = by_account period t in
    subst (AllTold (heard period t)) (sym d.reports) (all_told (heard period t) [] fresh none first_inv d.turn)

-- ---- each once, in turn

count_one : (b : Bool) (r : Report) (rs : List Report) (n : ℕ) → length rs ≡ n → length (cond b (r ∷ []) [] ++ rs) ≡ cond b (suc n) n
count_one true r rs n e = ap suc e
count_one false r rs n e = e

told_count : (h : List Happening) (a : Account) → length (account a h) ≡ ended_in h
unfolding account
told_count [] a = refl
told_count (frame_lost raises ∷ h) a = told_count h (next a (frame_lost raises))
told_count (word_came w d ∷ h) a = told_count h (next a (word_came w d))
told_count (status_read ∷ h) a = told_count h a
told_count (word_delivered w ∷ h) a =
    count_one (ends w) (report a) (account (next a (word_delivered w)) h) (ended_in h) (told_count h (next a (word_delivered w)))
told_count (was_reset ∷ h) a = told_count h (next a was_reset)

report_number : (a : Account) → number_of (report a) ≡ numbered a.number
report_number a = go (eqb a.closed_cause 0)
  where
    go : (b : Bool) → number_of (cond b (handed (numbered a.number) a.closed_letters) (dropped (numbered a.number) a.closed_cause))
        ≡ numbered a.number
    go true = refl
    go false = refl

order_one : (b : Bool) (a : Account) (rs : List Report) (n : ℕ) → a.number ≡ n → claims.InTurn (cond b (suc n) n) rs →
    claims.InTurn n (cond b (report a ∷ []) [] ++ rs)
order_one true a rs n e k = (report_number a ∙ ap numbered e, k)
order_one false a rs n e k = k

next_number : (b : Bool) (a : Account) (n : ℕ) → a.number ≡ n → (cond b (counted a) a).number ≡ cond b (suc n) n
next_number true a n e = ap suc e
next_number false a n e = e

pub came_number : (a : Account) (w : ℕ) (d : Damage) → (next a (word_came w d)).number ≡ a.number
came_number a w d = go (ends w)
  where
    go : (b : Bool) → (cond b (closing a d) (growing a (w % 128) d)).number ≡ a.number
    go true = refl
    go false = refl

in_turn : (h : List Happening) (a : Account) (n : ℕ) → a.number ≡ n → claims.InTurn n (account a h)
unfolding account
in_turn [] a n e = tt
in_turn (frame_lost raises ∷ h) a n e = in_turn h (next a (frame_lost raises)) n e
in_turn (word_came w d ∷ h) a n e = in_turn h (next a (word_came w d)) n (came_number a w d ∙ e)
in_turn (status_read ∷ h) a n e = in_turn h a n e
in_turn (word_delivered w ∷ h) a n e =
    order_one (ends w) a (account (next a (word_delivered w)) h) n e
    (in_turn h (next a (word_delivered w)) (cond (ends w) (suc n) n) (next_number (ends w) a n e))
in_turn (was_reset ∷ h) a n e = in_turn h (next a was_reset) n e

pub once : Once
once period t =
    let d : Done (lines period t) fresh none (heard period t) = by_account period t in
    record {
      count = ap length d.reports ∙ told_count (heard period t) fresh;
      order = subst (claims.InTurn 0) (sym d.reports) (in_turn (heard period t) fresh 0 refl);
    }
