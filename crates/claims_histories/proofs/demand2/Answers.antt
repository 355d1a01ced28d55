use mathlib.Core.Path.{refl}
use Rattle.claims_histories.specs.Demand2.{Demand2}
use Rattle.claims_histories.proofs.Sentence.{sentence}
use Rattle.claims_histories.proofs.SentenceMet.{can_arrive}
use Rattle.claims_histories.proofs.Arriving.{waits, arrive_in_turn, begins_at_one}
use Rattle.claims_histories.proofs.Uncounted.{uncounted, rate_is_all_holds}
use Rattle.claims_histories.proofs.Stopping.{stop_bit_holds}
use Rattle.claims_histories.proofs.Pin.{pin_shows}
use Rattle.claims_histories.proofs.Sent.{past, past', one, other}
use Rattle.claims_histories.proofs.SentOne.{one_sends, one_matched}
use Rattle.claims_histories.proofs.SentNext.{all_sent, all_read}
use Rattle.claims_histories.proofs.demand2.Goals as goal

demand2 : Demand2
demand2 =
    record {
      waits = waits;
      uncounted = uncounted;
      in_turn = arrive_in_turn;
      stop_bit = stop_bit_holds;
      pin = pin_shows;
      at_one = begins_at_one;
      rate_is_all = rate_is_all_holds;
      met = (past, past', one, other, one_sends, one_matched, all_sent, all_read);
    }

pub returns : goal.returns
returns c = (refl, sentence, can_arrive, demand2)
