use Rattle.std.proofs.Common.{rules, ◌≡◌, ◌<◌, false, length}
use Rattle.burr_plantext.specs.Rules.Checks.{is_known}
use Rattle.burr_asm.specs.Views.Names.{texts}
use Rattle.burr_asm.proofs.KnownNames.{numbers_more, room_left}
use Rattle.burr_asm.proofs.text.names.Names.add.Goals as goal

pub invariant_of-self-2 : goal.invariant_of-self-2
invariant_of-self-2 c =
    let unknown : is_known (texts c.self.inside.names.items) c.args.name.now ≡ false = rw c.self.view_is c.requires.new in
    let room : length c.self.inside.names.items < 256 = room_left c.self.inside.names.items (rw c.self.view_is c.requires.room) in
    let count : c.len-number.result ≡ length c.self.inside.names.items = search rules in (
      search rules,
      λ name. numbers_more c.self.inside.names.items c.push.new.self.items c.args.name name c.len-number.result _ _ (search rules) unknown count (c.self.invariant.1 name) (c.in_ok-insert.ensures.updates.0 (record c.args.name { now = name })),
    )
