use Rattle.burr_asm.proofs.Assembled.{listing_assembles}
use Rattle.burr_asm.proofs.laws.a_listing_assembles_to_its_container.Goals as goal

pub returns : goal.returns
returns c = listing_assembles c.a_text_has_one_plan.ensures c.a_listing_stands_for_its_plan.ensures
