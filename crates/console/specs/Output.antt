-- An output: what was given to it is what the system took of it, then what waits, then, once a write has failed, what is lost.
use Rattle.std.specs.Prelude.{◌≡◌, Bool, true, false, List, [], ◌++◌, ℕ, ◌+◌, ◌≤◌, length, take, Result, MatchResult, is_err}
use Rattle.console.specs.declared.output.Out.{Out}

-- The system took the first of the bytes handed to it, and all of them unless a write failed.
abbrev pub Hands : List ℕ → Result ℕ ℕ → Type 0
Hands bytes h = MatchResult h (λ taken. taken ≡ length bytes) (λ taken. taken ≤ length bytes)

abbrev pub fresh : Bool → Out
fresh eager = record { eager = eager; waits = 0; failed = false }

abbrev pub after : Out → Result ℕ ℕ → Out
after o h = record { eager = o.eager; waits = 0; failed = is_err h }

-- The bytes of the buffer that wait to be handed on.
abbrev pub waiting : Out → List ℕ → List ℕ
waiting o buf = take o.waits buf

-- A text given to an output with a buffer, and what both are afterwards.
pub record Gives (o : Out) (buf : List ℕ) (text : List ℕ) (o' : Out) (buf' : List ℕ) : Type 0 where
  -- What the system took in the meantime, and what it never will.
  pub handed : List ℕ
  pub lost : List ℕ
  -- What waited and what was given is that, in this order: what was handed on is a beginning of it.
  pub order : waiting o buf ++ text ≡ handed ++ waiting o' buf' ++ lost
  -- Nothing is lost while no write has failed.
  pub kept : o'.failed ≡ false → lost ≡ []
  -- After a failure nothing more is handed on, and it stays one.
  pub stopped : o.failed ≡ true → (handed ≡ []) × ((o' ≡ o) × (buf' ≡ buf))
  -- It stays the same output.
  pub same : o'.eager ≡ o.eager
  pub room : length buf' ≡ length buf

-- Once all is handed on, nothing waits.
abbrev pub Cleared : Out → Out → Type 0
Cleared o o' = o.failed ≡ false → o'.waits ≡ 0

-- There is room for a text behind what waits.
abbrev pub Fits : Out → List ℕ → List ℕ → Type 0
Fits o buf text = o.waits + length text ≤ length buf

-- A text of so many bytes is put there.
abbrev pub put_behind : Out → ℕ → Out
put_behind o n = record { eager = o.eager; waits = o.waits + n; failed = o.failed }
