-- What the rules say of the module: register map, refusals, pins, requests, events. This is what a reader must believe.
pub mod Map
pub mod State
pub mod Pins
pub mod Request
pub mod Own
pub mod Serial
pub mod Queue
pub mod Word
pub mod Lanes
pub mod Access
pub mod Decision
pub mod Event
