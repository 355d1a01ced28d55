use Rattle.text.proofs.Decimal.{digits_give_back}
use Rattle.text.proofs.Numbers.{numbers_give_back}
use Rattle.text.proofs.ReadBack.{bytes_give_back, plain_give_back, kinds_apart}
use Rattle.text.proofs.claims.shown.Goals as goal

pub returns : goal.returns
returns c = record { digits = digits_give_back; numbers = numbers_give_back; bytes = bytes_give_back; plain = plain_give_back; apart = kinds_apart }
