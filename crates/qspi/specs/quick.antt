-- What only quick bodies need, to play many clocks or samples at once. A reader need not believe it: proofs show that it changes no answer.
pub mod Falls
pub mod Quiet
