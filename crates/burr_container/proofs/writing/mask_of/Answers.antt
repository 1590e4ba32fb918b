-- The eight bits.
use Rattle.std.proofs.Common.{◌≡◌, length}
use Rattle.burr_container.proofs.Written.{mask_eight}
use Rattle.burr_container.proofs.writing.mask_of.Goals as goal

pub returns : goal.returns
returns c =
    let long : length c.args.live.now ≡ 8 = c.told-live in
    rw (c.from.ensures, c.from-2.ensures, c.from-3.ensures, c.from-4.ensures, c.from-5.ensures, c.from-6.ensures, c.from-7.ensures, c.from-8.ensures)
    (mask_eight c.args.live.now long)
