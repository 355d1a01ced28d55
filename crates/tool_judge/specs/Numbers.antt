-- A judgement in numbers: 0 for the field where the log is accepted, which no field has.
use Rattle.std.specs.Prelude.{ℕ, Ok, Err}
use Rattle.answers.specs.Field.{field_number}
use Rattle.tool_judge.specs.declared.Judged.{Judged}
use Rattle.tool_judge.specs.Verdict.{Verdict}
use Rattle.tool_judge.specs.declared.numbers.Judgement.{Judgement}

abbrev pub number_of : Verdict → ℕ
number_of (Ok x) = 0
number_of (Err w) = w.answer

abbrev pub field_of : Verdict → ℕ
field_of (Ok x) = 0
field_of (Err w) = field_number w.field

abbrev pub in_numbers : Judged → Judgement
in_numbers j = record { number = number_of j.verdict; field = field_of j.verdict; stop = j.stop }
