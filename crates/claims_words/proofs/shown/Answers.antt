use mathlib.Core.Path.{refl}
use Rattle.claims_words.proofs.Events.{as_marked_holds, event_told, figure_told, noisy_word}
use Rattle.claims_words.proofs.Records.{figures_told, by_record, all_told}
use Rattle.claims_words.proofs.shown.Goals as goal

pub returns : goal.returns
returns c = (
  refl,
  record {
    as_marked_holds = as_marked_holds;
    told = event_told;
    figure_told = figure_told;
    figures_told = figures_told;
    record_told = by_record;
    all_told = all_told;
    noisy_word = noisy_word;
  },
)
