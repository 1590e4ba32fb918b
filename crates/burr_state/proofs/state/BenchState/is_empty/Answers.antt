use Rattle.std.proofs.Common.{sym, subst, IsTrue, ◌↔◌}
use Rattle.burr_code.specs.Places.{IsEmptyTray}
use Rattle.burr_state.specs.Rules.Bench.{BenchState}
use Rattle.burr_state.proofs.state.BenchState.is_empty.Goals as goal

pub returns : goal.returns
returns c = subst (λ (s : BenchState). IsTrue c.is_empty_tray.result ↔ IsEmptyTray s.places c.args.tray) c.self.view_is (rw (sym c.as_slice.ensures.value) c.is_empty_tray.ensures)
