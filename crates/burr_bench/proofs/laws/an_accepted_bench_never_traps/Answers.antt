use Rattle.burr_bench.proofs.Common.Machine.{start_of_accepted, call_is_safe, each_state_is_safe, some_safe_call, no_trap_is_next, step_is_safe, aside_is_safe}
use Rattle.burr_bench.proofs.laws.an_accepted_bench_never_traps.Goals as goal

pub returns : goal.returns
returns c =
    let given = c.a_fitting_plan_is_from_a_container.ensures in
    let disjoint = c.pieces_never_overlap.ensures.homes in record {
      start = λ j a state at. start_of_accepted given disjoint j a state at;
      call = call_is_safe given;
      each = each_state_is_safe given disjoint;
      some = some_safe_call given;
      next = no_trap_is_next given;
      step = step_is_safe given;
      aside = aside_is_safe given;
    }
