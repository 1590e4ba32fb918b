-- The eight slots, one by one.
use Rattle.std.proofs.Common.{◌≡◌, length, sym}
use Rattle.burr_container.proofs.Forms.{eight}
use Rattle.burr_container.proofs.lists.live_slots.Goals as goal

pub returns : goal.returns
returns c =
    let long : length c.args.slots.now ≡ 8 = c.told-slots in
    rw (c.is_some.ensures, c.is_some-2.ensures, c.is_some-3.ensures, c.is_some-4.ensures, c.is_some-5.ensures, c.is_some-6.ensures, c.is_some-7.ensures, c.is_some-8.ensures)
    (sym (eight c.args.slots.now long))
