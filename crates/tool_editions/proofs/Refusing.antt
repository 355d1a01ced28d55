-- A result by the number of its refusal. Assumes nothing.
use mathlib.Core.Path.{◌≡◌, refl}
use mathlib.Core.Bool.{Bool, true, false}
use native.Mathlib.Omega.{arith}
use Rattle.std.specs.Prelude.{Result, Ok, Err}
use Rattle.std.specs.Result.{is_err}
use Rattle.tool_editions.specs.Refusals.{number, refusal_in}
use Rattle.tool_editions.specs.declared.refusals.Refusal.{Refusal}
use Rattle.tool_editions.specs.declared.refusals.Refusal.TheVariants.{Unmodelled, BadRecord, CutRecord, NoRoom, BadNumber}

pub not_0 : (why : Refusal) → number why ≡ 0 → ⊥
not_0 Unmodelled e = omega arith
not_0 BadRecord e = omega arith
not_0 CutRecord e = omega arith
not_0 NoRoom e = omega arith
not_0 BadNumber e = omega arith

pub is_let : {A : Type 0} (r : Result A Refusal) {b : Bool} → b ≡ is_err r → b ≡ false → refusal_in r ≡ 0
is_let (Ok x) e f = refl
is_let (Err why) e f = absurd cc

pub is_refused : {A : Type 0} (r : Result A Refusal) {b : Bool} → b ≡ is_err r → b ≡ true → refusal_in r ≡ 0 → ⊥
is_refused (Ok x) e t z = cc
is_refused (Err why) e t z = not_0 why z

pub ok_let : {A : Type 0} {r : Result A Refusal} {x : A} → r ≡ Ok x → refusal_in r ≡ 0
ok_let e = rw e refl
