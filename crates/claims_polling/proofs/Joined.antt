-- Events put together: what they leave, what reaches the receiver and what happens to words. Assumes nothing.
use mathlib.Core.Path.{◌≡◌, refl, ap, sym, ◌∙◌}
use mathlib.Core.Bool.{Bool, ◌&&◌}
use mathlib.Core.List.{List, [], ◌∷◌, ◌++◌, append_assoc}
use Prim.Native.Nat.{ℕ, ◌+◌}
use native.Mathlib.Omega.{arith}
use Rattle.sci.specs.model.Framer.{framed}
use Rattle.sci.specs.claims.Levels.{Unmoved}
use Rattle.sci.specs.claims.Line.{Op, sample, read}
use Rattle.sci.specs.claims.Overrun.{Mark, frame_lost, word_came, status_read, word_delivered, was_reset}
use Rattle.sci.specs.declared.framer.Framer.{Framer}
use Rattle.qsm.specs.declared.state.Module.{Module}
use Rattle.qsm.specs.declared.event.Event.{Event}
use Rattle.claims_histories.specs.History.{after, run, Unbroken, event_ops, ops, event_marks, log}
use Rattle.claims_polling.specs.Spacing.{samples_of}
use Rattle.claims_polling.specs.Rule.{lost_in}

pub run_joined : (es fs : List Event) (m : Module) → run (es ++ fs) m ≡ run fs (run es m)
unfolding run
run_joined [] fs m = refl
run_joined (e ∷ es) fs m = run_joined es fs (after e m)

pub ops_joined : (es fs : List Event) (m : Module) → ops (es ++ fs) m ≡ ops es m ++ ops fs (run es m)
unfolding run ops
ops_joined [] fs m = refl
ops_joined (e ∷ es) fs m =
    ap (λ (os : List Op). event_ops e m ++ os) (ops_joined es fs (after e m))
    ∙ sym (append_assoc (event_ops e m) (ops es (after e m)) (ops fs (run es (after e m))))

pub log_joined : (es fs : List Event) (m : Module) → log (es ++ fs) m ≡ log es m ++ log fs (run es m)
unfolding run log
log_joined [] fs m = refl
log_joined (e ∷ es) fs m =
    ap (λ (h : List Mark). event_marks e m ++ h) (log_joined es fs (after e m))
    ∙ sym (append_assoc (event_marks e m) (log es (after e m)) (log fs (run es (after e m))))

pub unbroken_first : (es fs : List Event) (m : Module) → Unbroken (es ++ fs) m → Unbroken es m
unbroken_first [] fs m u = tt
unbroken_first (e ∷ es) fs m u = (u.0, unbroken_first es fs (after e m) u.1)

pub unbroken_last : (es fs : List Event) (m : Module) → Unbroken (es ++ fs) m → Unbroken fs (run es m)
unfolding run
unbroken_last [] fs m u = u
unbroken_last (e ∷ es) fs m u = unbroken_last es fs (after e m) u.1

pub lost_joined : (h k : List Mark) → lost_in (h ++ k) ≡ lost_in h + lost_in k
lost_joined [] k = omega arith
lost_joined (frame_lost raises ∷ h) k = omega (arith, lost_joined h k)
lost_joined (word_came w ∷ h) k = lost_joined h k
lost_joined (status_read ∷ h) k = lost_joined h k
lost_joined (word_delivered w ∷ h) k = lost_joined h k
lost_joined (was_reset ∷ h) k = lost_joined h k

pub samples_joined : (os ps : List Op) → samples_of (os ++ ps) ≡ samples_of os ++ samples_of ps
samples_joined [] ps = refl
samples_joined (sample x ∷ os) ps = ap (λ (xs : List Bool). x ∷ xs) (samples_joined os ps)
samples_joined (read scsr scdr ∷ os) ps = samples_joined os ps

pub unmoved_first : (n : ℕ) (a b c : Bool) (f : Framer) (xs ys : List Bool) → Unmoved n a b c f (xs ++ ys) → Unmoved n a b c f xs
unfolding Unmoved
unmoved_first n a b c f [] ys u = tt
unmoved_first n a b c f (x ∷ xs) ys u = (u.0, unmoved_first n x a b (framed n f (a && b && c) x) xs ys u.1)
