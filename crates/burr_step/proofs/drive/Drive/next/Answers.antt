use Rattle.std.proofs.Common.{◌+◌, None, bit_and, w32, subst, arith}
use Rattle.std.specs.Int.{bit_not}
use Rattle.burr_state.specs.Views.Benches.{setup_of}
use Rattle.burr_step.specs.declared.drive.Move.{Move}
use Rattle.burr_step.specs.Rules.Drive.{Moves}
use Rattle.burr_step.specs.Rules.Moves.{MakesMove}
use Rattle.burr_step.specs.Views.Driving.{Driving, driving, Goes, IsAhead}
use Rattle.burr_step.proofs.Driving.{driving_safely, drives_on, drive_rests, few_moves, move_told}
use Rattle.burr_step.proofs.MakingLines.{is_ahead, whole_move}
use Rattle.burr_step.proofs.drive.Drive.next.Goals as goal

pub motion_ahead-requires : goal.motion_ahead-requires
motion_ahead-requires c =
    driving_safely c.a_fitting_plan_is_from_a_container.ensures (driving c.self.inside.machine c.self.inside.moves c.self.inside.answers) c.self.invariant

pub halted-requires : goal.halted-requires
halted-requires c =
    subst (λ (d : Driving). IsAhead (setup_of d.bench) d.bench.state None) c.self.view_is c.in_default.ensures

pub make_line-out-requires-clause-safe : goal.make_line-out-requires-clause-safe
make_line-out-requires-clause-safe c =
    driving_safely c.a_fitting_plan_is_from_a_container.ensures (driving c.self.inside.machine c.self.inside.moves c.self.inside.answers) c.self.invariant

pub make_line-out-requires-clause-next : goal.make_line-out-requires-clause-next
make_line-out-requires-clause-next c = is_ahead c.self.inside.machine c.in-Some.motion c.in-Some._tray c.in-Some.ensures

pub make_line-out-requires-clause-rests : goal.make_line-out-requires-clause-rests
make_line-out-requires-clause-rests c = drive_rests (driving c.self.inside.machine c.self.inside.moves c.self.inside.answers) c.self.invariant

pub overflow_add-self : goal.overflow_add-self
overflow_add-self c =
    let few = few_moves c.a_fitting_plan_is_from_a_container.ensures (driving c.self.inside.machine c.self.inside.moves c.self.inside.answers) c.self.invariant in
    omega (arith, few)

-- the move that was made
abbrev told : (c : goal.After-pieces_apart) → Move
told c = record {
  number = c.self.inside.moves + 1;
  tray = c.make_line-out.result.0.tray;
  group = c.make_line-out.result.0.group;
  direction = c.make_line-out.result.0.direction;
  units = c.make_line-out.result.0.units;
  out = c.make_line-out.result.1;
  apart = bit_and c.pieces_apart.result (bit_not w32 c.pieces_apart-apart.result);
}

made : (c : goal.After-pieces_apart) → MakesMove (setup_of c.self.inside.machine) c.self.inside.moves c.self.inside.machine.state (told c) c.make_line-out.new.machine.state
made c =
    whole_move c.self.inside.machine c.make_line-out.new.machine c.self.inside.moves c.pieces_apart-apart.result c.pieces_apart.result c.make_line-out.result.0
    c.make_line-out.result.1 c.make_line-out.ensures.line c.make_line-out.ensures.some c.pieces_apart-apart.type_inv c.pieces_apart.type_inv c.pieces_apart-apart.ensures
    c.pieces_apart.ensures

pub invariant_of-self : goal.invariant_of-self
invariant_of-self c =
    drives_on c.self.inside.machine c.make_line-out.new.machine c.self.inside.moves c.self.inside.answers (told c) c.self.invariant c.make_line-out.ensures.line.same (made c)

pub returns : goal.returns
returns c =
    subst (λ (e : Driving). Goes e (driving c.make_line-out.new.machine (c.self.inside.moves + 1) c.self.inside.answers) (λ setup d f. Moves setup d (told c) f)) c.self.view_is
    (move_told c.self.inside.machine c.make_line-out.new.machine c.self.inside.moves c.self.inside.answers (told c) c.make_line-out.ensures.line.same (made c))
