use Rattle.claims_assembling.proofs.Records.{lines_give_back, bytes_give_back}
use Rattle.claims_assembling.proofs.Back.{traces_give_back, met}
use Rattle.claims_assembling.proofs.Edges.{edges_kept}
use Rattle.claims_assembling.proofs.given_back.Goals as goal

pub returns : goal.returns
returns c = record { lines = lines_give_back; bytes = bytes_give_back; traces = traces_give_back; edges = edges_kept; met = met }
