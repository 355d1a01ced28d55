-- Only a sample that ends a frame changes the account.
use mathlib.Core.Path.{◌≡◌, refl, sym}
use mathlib.Core.Bool.{Bool, true, false, ◌&&◌, false≢true}
use Prim.Native.Nat.{ℕ}
use Rattle.sci.specs.model.Framer.{ends}
use Rattle.sci.specs.model.Receiver.{outcome}
use Rattle.sci.specs.model.Account.{counting, accounted}
use Rattle.sci.specs.declared.status.Status.{Status}
use Rattle.sci.specs.declared.receiver.Receiver.{Receiver}
use Rattle.sci.specs.declared.account.Account.{Account}

pub no_frame : (a : Account) (r : Receiver) (s : Status) (sccr1 : ℕ) (x : Bool) → ends r.framer ≡ false →
    counting a (outcome r s sccr1 x) ≡ a
unfolding outcome
no_frame a r s sccr1 x e = rw e

pub counts : (re : Bool) (a : Account) (r : Receiver) (s : Status) (sccr1 : ℕ) (x : Bool) → (re && ends r.framer) ≡ true →
    counting a (outcome r s sccr1 x) ≡ accounted re a (outcome r s sccr1 x)
counts true a r s sccr1 x e = refl
counts false a r s sccr1 x e = absurd (false≢true e)

pub stays : (re : Bool) (a : Account) (r : Receiver) (s : Status) (sccr1 : ℕ) (x : Bool) → (re && ends r.framer) ≡ false →
    a ≡ accounted re a (outcome r s sccr1 x)
stays true a r s sccr1 x e = sym (no_frame a r s sccr1 x e)
stays false a r s sccr1 x e = refl
