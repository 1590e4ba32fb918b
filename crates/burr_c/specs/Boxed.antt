-- What a handle keeps, as the logic has it.
pub use Rattle.burr_c.specs.contracts.handle.KeptRun.{the_row as C}
