-- All that is shown of playing a trace.
use Rattle.trace.specs.Laws.{KnownAndWhole, BytesEach, AnswersFit, RecordsRead, ReadToTheEnd, EarlierStand, Resumes, InParts, Streams}
use Rattle.trace.specs.Records.{StateLeft}

pub record Claims : Type 0 where
  pub known_and_whole : KnownAndWhole
  pub bytes_each : BytesEach
  pub answers_fit : AnswersFit
  pub records_read : RecordsRead
  pub read_to_the_end : ReadToTheEnd
  pub earlier_stand : EarlierStand
  pub resumes : Resumes
  pub in_parts : InParts
  pub streams : Streams
  pub state_left : StateLeft
