use mathlib.Core.Path.{refl}
use Rattle.trace.proofs.Laws.{known_and_whole, bytes_each, answers_fit, records_read, read_to_the_end, earlier_stand, resumes, in_parts, streams}
use Rattle.trace.proofs.Records.{state_left}
use Rattle.trace.proofs.claims.shown.Goals as goal

pub returns : goal.returns
returns c = (
  refl,
  record {
    known_and_whole = known_and_whole;
    bytes_each = bytes_each;
    answers_fit = answers_fit;
    records_read = records_read;
    read_to_the_end = read_to_the_end;
    earlier_stand = earlier_stand;
    resumes = resumes;
    in_parts = in_parts;
    streams = streams;
    state_left = state_left;
  },
)
