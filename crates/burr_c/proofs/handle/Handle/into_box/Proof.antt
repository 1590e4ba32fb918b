-- `into_box` makes the box again of what an open handle keeps, and gives nothing of a closed one.
use Rattle.std.proofs.Common.{◌≡◌, List, [], ◌∷◌, refl, sym, ap, ◌∙◌, lit<}
use mir.Val.{Val, vcons, vnil}
use base.Fraction.{full_share}
use base.Logic.{id⊢, emp}
use base.Fml.{ftrue, flft}
use contract.BorrowLft.{◌⊑◌, ⊑_refl}
use contract.Monad.{fact, fact_i}
use contract.Running.{tables}
use types.Kit.{‵, raw, ◌⊛◌, some, later, at_ret, ◌$◌, ◌∵◌, !, qed, done, suffices, await}
use types.Kit.{fpick, move, keep, drop, group, split, join, pick, use0, use1, use2, feq_i}
use types.Run.{stop, fld, of_opd, un, lit, no_more, and_then, first, blocks, branches, skips, exec, returns, returns_within, enter}
use types.ByLocal.{alloc_all, pass_all, free_all, look_at, get, get_in, sets, lands_last, env}
use types.Match.{live}
use types.Part.{agg, sub, whole}
use denote.Exit.{yes}
use denote.Laws.{Is, shows}
use denote.Param.Laws.{Laws}
use denote.Param.NoDrop.{glues}
use denote.RattleType.{RattleType}
use denote.RawPtr.{ptr_val}
use denote.Signature.{plain}
use denote.Steps.{nothing, heard, peeks}
use denote.Triple.Call.{calls_at_last}
use denote.Triple.Clauses.{Lasts, lasts}
use denote.Triple.Spec.{triple_of}
use denote.Triple.Walked.{Stays, stay_dropped, walk_of, says, ends_at, Goes-dropped}
use Rattle.core.proofs.atomic.Steps.{fm, Ptr-Good}
use Rattle.core.proofs.option.Made.{Some-of, none_of}
use Rattle.core.specs.contracts.option.Option as option
use Rattle.core.specs.declared.option.Option.TheVariants.{None, Some}
use Rattle.std.specs.contracts.impls.GlobalAllocator.TheImpl.{ghosts, dict}
use Rattle.std.proofs.alloc.Global.TheLaws as global_laws
use Rattle.std.proofs.impls.GlobalAllocator.TheImpl.Met.{passed as heap_meets}
use Rattle.std.proofs.raw_atomic.Walks.{proved}
use Rattle.std_alloc.proofs.ResultValues.{and_tt}
use Rattle.std_alloc.proofs.boxed.Box.TheLaws as box_laws
use Rattle.std_alloc.specs.contracts.boxed.Box as Box
use Rattle.std_alloc.specs.contracts.boxed.Box.from_raw as callee
use Rattle.std_alloc.proofs.boxed.Box.from_raw.Met.{met}
use Rattle.burr_c.proofs.Boxed.{C-laws, boxed, boxed_laws}
use Rattle.burr_c.proofs.Heap.{Heap, heap, heap_laws, heap_bits, heap_told, no_drop, heap_drop}
use Rattle.burr_c.proofs.HandleValues.{Handle, pair, pair_fits, opens_handle, closed, opened}
use Rattle.burr_c.proofs.handle.Handle.TheLaws.{lowers}
use Rattle.burr_c.proofs.Destruct++none.drop.Code as no_drop_code
use Rattle.burr_c.specs.Boxed.{C}
use Rattle.burr_c.specs.contracts.handle.Handle.into_box as f
use Rattle.burr_c.proofs.handle.Handle.into_box.Statement.{statement}
use Rattle.burr_c.proofs.handle.Handle.into_box.Code as code

abbrev Whole : RattleType
Whole = Box.the_row C Heap ghosts

abbrev Out : RattleType
Out = option.the_row Whole

whole_laws : Laws Whole
whole_laws = box_laws.the_row_laws C Heap ghosts C-laws global_laws.the_row_laws

abbrev stayed : Stays f.ended.signature.params f.ended.kept
stayed = (stay_dropped (plain (λ _. Handle)) yes, (stay_dropped (plain (λ _. Heap)) yes, tt))

pub into_box_spec : {M : Type 1} → statement M
unfolding no_drop_code.code
into_box_spec {M} 𝓤 𝓛 𝓜 𝓡 wired =
    let c = f.clauses 𝓛 𝓜.mem 𝓡.returns in let W = walk_of 𝓛 f.ended stayed c in let 𝓣 = tables 𝓤 𝓛.H 𝓜 𝓡 𝓡.env in
    proved 𝓛 f.ended stayed c 𝓜 𝓡
    (Goes-dropped 𝓛 0 (plain (λ _. Handle)) yes (λ κs x w. refl), (Goes-dropped 𝓛 0 (plain (λ _. Heap)) yes (λ κs x w. refl), tt))
    f.Key.name code.function (code.unfolded 𝓤 𝓛.H 𝓜 𝓡 wired)
    (λ κs. ((λ handle. pair handle.at handle.is_open ∷ []), ((λ alloc. heap_bits alloc ∷ []), tt)))
    (λ κs. (lowers.val_is, (heap_told, tt))) (λ κs qs bounds a _ are.
    let handle = a.0 in let alloc = a.1.0 in
    let bits : Val = pair handle.at handle.is_open in let alloc_bits : Val = heap_bits alloc in
    let alloc_fits = ((heap_laws.lawful 𝓛).typed alloc (alloc_bits ∷ []) are.1.0).0 in
    let y : W.Ghost = ((κs, qs, bounds, a, (bits ∷ [], (alloc_bits ∷ [], tt))), tt) in
    qed 𝓛 ((‵ ftrue ⊛ ‵ (Handle.own_val handle (bits ∷ [])) ⊛ ‵ (Heap.own_val alloc (alloc_bits ∷ [])) ⊛ ‵ ftrue) ∷ ‵ ftrue ∷ []) ∵
    split ! $ move ! (1 ∷ []) $ split ! $ opens_handle ! handle (bits ∷ []) $ move ! (1 ∷ []) $ split ! $ keep ! (2 ∷ 0 ∷ []) $
    -- [what the handle keeps; the allocator]
    enter ! 𝓣.C 𝓣.Λ code.function (bits ∷ alloc_bits ∷ []) (W.post y) $
    alloc_all ! (λ l. pass_all ! refl (pair_fits handle.at handle.is_open, (alloc_fits, tt)) $
    let Env = env code.Mir.locals l in
    sets ! (of_opd ! (get_in ! (fld ! refl (stop !)) (sub ! 0 refl (whole !)))) refl (Ptr-Good handle.at) $
    sets ! (of_opd ! (get_in ! (fld ! refl (stop !)) (sub ! 1 refl (whole !)))) refl (tt, tt) $
    sets ! (un ! (get ! refl) tt) refl (tt, tt) $
    first ! $ branches ! (get ! refl)
    (λ is_closed. closed ! handle.is_open handle.at handle.value is_closed (λ none.
    sets ! (agg ! (and_then ! (lit ! tt) (no_more !))) refl (tt, (record { fits = lit< tt }, tt)) $
    use0 𝓛 (‵ (Out.own_val None (live 0 vnil ∷ []))) (none_of 𝓛 Whole) $
    returns_within ! (W.post y) refl (look_at ! 0 refl) $ free_all ! refl $ keep ! (0 ∷ []) $
    suffices ! _ (ends_at 𝓛 f.ended stayed c y (live 0 vnil) None (tt, (tt, tt)) (tt, (tt, tt))) $
    says ! none $ nothing ! $ nothing ! $ join ! $ nothing ! $ join ! $ nothing ! $ done !))
    (λ is_open. opened ! handle.is_open handle.at handle.value is_open (λ value has_value. fpick ! (λ held.
    skips ! $ exec ! 𝓣.C 𝓣.Λ Env code.Mir.t-5 (at_ret Env (W.post y)) $
    first ! $ blocks ! $
    sets ! (of_opd ! (get ! refl)) refl (Ptr-Good handle.at) $
    -- [what the handle keeps; the allocator; the locals]
    let called = callee.ended boxed heap ghosts dict heap_drop in
    let raw_triple = triple_of 𝓛 called.signature (callee.spec boxed heap ghosts dict heap_drop 𝓛 𝓜.mem 𝓡.returns) in
    let asked : raw_triple.Ghost =
    ((([], ([], tt)), (full_share, (full_share, tt)), tt, (alloc, (handle.at, tt)), (alloc_bits ∷ [], (ptr_val handle.at ∷ [], tt))), value) in
    let tokens = ‵ (flft [] full_share) ⊛ ‵ (flft [] full_share) ⊛ ‵ ftrue in
    let forever = [] ⊑ [] in
    -- the facts on the lifetimes and what is kept; the parameters; the tokens, of the longest lifetime
    use0 𝓛 (raw (fact 𝓤 forever)) (fact_i 𝓤 forever (emp 𝓤) (⊑_refl [])) $
    use0 𝓛 (raw (fact 𝓤 forever)) (fact_i 𝓤 forever (emp 𝓤) (⊑_refl [])) $ group ! 3 $
    nothing ! $ feq_i ! (List Val) (ptr_val handle.at ∷ []) (ptr_val handle.at ∷ []) refl $ move ! (3 ∷ 0 ∷ 1 ∷ []) $ group ! 3 $
    nothing ! $ use0 𝓛 (‵ (flft [] full_share)) (𝓛.lfts.lft-nil full_share) $ use0 𝓛 (‵ (flft [] full_share)) (𝓛.lfts.lft-nil full_share) $
    group ! 3 $ join ! $ use2 𝓛 (raw (raw_triple.pre asked)) (id⊢ 𝓤 _) $
    calls_at_last ! (fm 𝓛 𝓜 𝓡) raw_triple
    (met 𝓤 𝓛 𝓜 𝓡 (code.calls-std_alloc::boxed::Box::from_raw 𝓡.env wired) boxed heap boxed_laws heap_laws ghosts dict heap_drop
    (heap_meets 𝓡.env (code.calls-std_heap::GlobalAllocator::allocate 𝓡.env wired) (code.calls-std_heap::GlobalAllocator::deallocate 𝓡.env wired)
    (code.calls-std_heap::GlobalAllocator::grow 𝓡.env wired) (code.calls-std_heap::GlobalAllocator::shrink 𝓡.env wired) M 𝓤 𝓛 𝓜 𝓡)
    (glues no_drop 𝓡.env (code.calls-burr_c::Destruct++none::drop 𝓡.env wired) heap heap_laws M 𝓤 𝓛 𝓜 𝓡))
    asked (and_then ! (get ! refl) (and_then ! (get ! refl) (no_more !))) (λ given.
    use1 𝓛 (later (some (λ (made : Whole.Denot). (tokens ⊛ ‵ (Whole.own_val made (given ∷ []))) ⊛
    some (λ (ws : Lasts called asked.0.0 asked.0.3). ‵ (lasts called asked.0.0 asked.0.3 ws) ⊛
    raw (fact 𝓤 (made.value ≡ value)) ⊛ raw (fact 𝓤 (made.alloc ≡ alloc)))))) (id⊢ 𝓤 _) $
    await ! tt $ pick ! (λ made. split ! $ move ! (1 ∷ []) $ pick ! (λ ws. split ! $ drop ! $ split ! $ heard ! _ (λ same.
    drop ! $ split ! $ drop ! $
    -- [the box; the locals]
    peeks ! Whole (Is Whole) (shows 𝓛 Whole) made (given ∷ []) (λ is.
    let given_fits = ((whole_laws.lawful 𝓛).typed made (given ∷ []) is).0 in
    lands_last ! refl given_fits $ exec ! 𝓣.C 𝓣.Λ Env code.Mir.t-6 (at_ret Env (W.post y)) $
    sets ! (of_opd ! (get ! refl)) refl given_fits $
    sets ! (of_opd ! (get ! refl)) refl given_fits $
    sets ! (agg ! (and_then ! (lit ! tt) (and_then ! (get ! refl) (no_more !)))) refl
    (and_tt _ given_fits.0, (record { fits = lit< tt }, (given_fits.1, tt))) $
    use1 𝓛 (‵ (Out.own_val (Some made) (live 1 (vcons given vnil) ∷ []))) (Some-of 𝓛 Whole made given) $
    returns ! (look_at ! 0 refl) $ free_all ! refl $ keep ! (0 ∷ []) $
    suffices ! _ (ends_at 𝓛 f.ended stayed c y (live 1 (vcons given vnil)) (Some made) (tt, (tt, tt)) (tt, (tt, tt))) $
    says ! (has_value ∙ ap Some (sym same)) $ nothing ! $ nothing ! $ join ! $ nothing ! $ join ! $ nothing ! $ done !))))))))))
