-- `of` keeps the pointer that `Box::into_raw` gives, and with it the value there and the right to free the block.
use Rattle.std.proofs.Common.{[], ◌∷◌, refl, ap}
use mir.Syntax.{a_type, dcons, dnil}
use mir.MapTy.{inst_fn}
use mir.Val.{Val, vstruct, vcons, vnil}
use base.Fraction.{full_share}
use base.Fml.{ftrue, flft}
use base.Logic.{id⊢, emp}
use contract.BorrowLft.{◌⊑◌, ⊑_refl}
use contract.Monad.{fact, fact_i}
use contract.Running.{tables}
use types.Kit.{‵, raw, ◌⊛◌, some, later, ◌$◌, ◌∵◌, !, qed, done, suffices, await}
use types.Kit.{fpack, move, keep, drop, group, split, join, pick, use0, use1, use2, feq_l}
use types.Run.{of_opd, no_more, and_then, returns, enter}
use types.ByLocal.{alloc_all, pass_all, free_all, look_at, get, sets, lands_as}
use types.Part.{agg}
use denote.Builtin.{RawPtr}
use denote.Exit.{no}
use denote.Laws.{Tells, Is}
use denote.Param.{param, bounded}
use denote.Param.Laws.{Laws, param_laws}
use denote.Param.NoDrop.{glues}
use denote.RattleType.{RattleType}
use denote.RawPtr.{Ptr, ptr_val, rawptr_vals, rawptr_Tells}
use denote.Signature.{plain}
use denote.Steps.{nothing, only}
use denote.Struct.Owning.{shape}
use denote.Struct.Struct.{Struct-Tells}
use denote.Triple.Call.{calls_at}
use denote.Triple.Clauses.{Lasts, lasts}
use denote.Triple.Spec.{triple_of}
use denote.Triple.Walked.{Stays, stay_dropped, walk_of, says, ends_at}
use Rattle.core.proofs.alloc.Calls.{Goes-blank}
use Rattle.core.proofs.atomic.Steps.{fm, Ptr-Good}
use Rattle.std.proofs.alloc.Global.TheLaws as global_laws
use Rattle.std.proofs.impls.GlobalAllocator.TheImpl.Met.{passed as heap_meets}
use Rattle.std.specs.contracts.impls.GlobalAllocator.TheImpl.{ghosts, dict}
use Rattle.std.proofs.raw_atomic.Walks.{proved}
use Rattle.std_alloc.proofs.boxed.Box.TheLaws as box_laws
use Rattle.std_alloc.specs.contracts.boxed.Box as Box
use Rattle.std_alloc.specs.Box.Ownership.{box_owns}
use Rattle.std_alloc.specs.contracts.boxed.Box.into_raw as callee
use Rattle.std_alloc.proofs.boxed.Box.into_raw.Met.{met}
use Rattle.burr_c.proofs.Heap.{Heap, heap, heap_laws, heap_bits, heap_told, no_drop, heap_drop}
use Rattle.burr_c.proofs.LooseValues.{word, word_fits, makes_loose}
use Rattle.burr_c.proofs.Destruct++none.drop.Code as no_drop_code
use Rattle.burr_c.specs.contracts.handle.Loose.of as f
use Rattle.burr_c.proofs.handle.Loose.of.Statement.{statement}
use Rattle.burr_c.proofs.handle.Loose.of.Code as code

-- a box of the heap lies in the machine as a struct of its pointer and the heap's handle
module _ (R : RattleType) where
  abbrev Whole : RattleType
  Whole = Box.the_row R Heap ghosts

  abbrev whole_bits : Whole.Denot → Val
  whole_bits whole = vstruct (vcons (ptr_val whole.ptr) (vcons (heap_bits whole.alloc) vnil))

  whole_told : Tells Whole (Is Whole) (λ whole. whole_bits whole ∷ [])
  whole_told whole bits is =
      Struct-Tells (shape (Box.the_type R Heap ghosts)) (rawptr_vals, ((λ alloc. heap_bits alloc ∷ []), tt)) (rawptr_Tells, (heap_told, tt))
      (whole.ptr, (whole.alloc, tt)) bits is.0

pub of_spec : {M : Type 1} → statement M
unfolding no_drop_code.code
of_spec {M} 𝓤 𝓛 𝓜 𝓡 wired T laws drops glue =
    let R : RattleType = param 0 T in let Box_R : RattleType = Whole R in
    let box_of_laws : Laws Box_R = box_laws.the_row_laws R Heap ghosts (param_laws 0 T laws) global_laws.the_row_laws in
    let passed = bounded (a_type ∷ []) (T, tt) (dcons drops dnil) in
    let function = inst_fn passed code.function in
    let ended = f.ended T drops in let c = f.clauses T drops 𝓛 𝓜.mem 𝓡.returns in
    let stayed : Stays ended.signature.params ended.kept = (stay_dropped (plain (λ _. Box_R)) no, tt) in
    let W = walk_of 𝓛 ended stayed c in let 𝓣 = tables 𝓤 𝓛.H 𝓜 𝓡 𝓡.env in
    proved 𝓛 ended stayed c 𝓜 𝓡 (Goes-blank 𝓛 1 (plain (λ _. Box_R)) no (λ κs x w. tt), tt)
    (f.Key.name passed) function (code.unfolded 𝓤 𝓛.H 𝓜 𝓡 wired (T, tt) drops)
    (λ κs. ((λ whole. whole_bits R whole ∷ []), tt)) (λ κs. (whole_told R, tt)) (λ κs qs bounds a _ are.
    let κ = κs.0 in let share = qs.0 in let whole = a.0 in let bits : Val = whole_bits R whole in
    let bits_fit = ((box_of_laws.lawful 𝓛).typed whole (bits ∷ []) are.0).0 in
    let y : W.Ghost = ((κs, qs, bounds, a, (bits ∷ [], tt)), tt) in
    qed 𝓛 (((‵ (flft κ share) ⊛ ‵ ftrue) ⊛ ‵ (Box_R.own_val whole (bits ∷ [])) ⊛ ‵ ftrue) ∷ (raw (fact 𝓤 (κ ⊑ T.lives)) ⊛ ‵ ftrue) ∷ []) ∵
    let called = callee.ended T heap ghosts dict heap_drop drops in
    let raw_triple = triple_of 𝓛 called.signature (callee.spec T heap ghosts dict heap_drop drops 𝓛 𝓜.mem 𝓡.returns) in
    let asked : raw_triple.Ghost = (((κ, ([], tt)), (share, (full_share, tt)), tt, (whole, tt), (bits ∷ [], tt)), tt) in
    let heap_lives : Type 0 = [] ⊑ heap.lives in
    let block = λ (alloc : Heap.Denot) (at : Ptr). box_owns (ghosts.dealloc_token alloc) R at whole.value in
    -- a token of the heap's lifetime, which is the longest, and the fact that it is within the heap's
    split ! $ split ! $ use0 𝓛 (‵ (flft [] full_share)) (𝓛.lfts.lft-nil full_share) $ move ! (1 ∷ 0 ∷ 2 ∷ []) $ group ! 3 $ join ! $
    move ! (1 ∷ []) $ split ! $ use0 𝓛 (raw (fact 𝓤 heap_lives)) (fact_i 𝓤 heap_lives (emp 𝓤) (⊑_refl [])) $
    move ! (1 ∷ 0 ∷ 2 ∷ []) $ group ! 3 $ move ! (1 ∷ []) $ use2 𝓛 (raw (raw_triple.pre asked)) (id⊢ 𝓤 _) $
    -- [what `into_raw` asks]
    enter ! 𝓣.C 𝓣.Λ function (bits ∷ []) (W.post y) $ alloc_all ! (λ l. pass_all ! refl (bits_fit, tt) $
    sets ! (of_opd ! (get ! refl)) refl bits_fit $
    calls_at ! (fm 𝓛 𝓜 𝓡) raw_triple
    (met 𝓤 𝓛 𝓜 𝓡 (code.calls-std_alloc::boxed::Box::into_raw 𝓡.env wired) T heap laws heap_laws ghosts dict heap_drop drops
    (heap_meets 𝓡.env (code.calls-std_heap::GlobalAllocator::allocate 𝓡.env wired) (code.calls-std_heap::GlobalAllocator::deallocate 𝓡.env wired)
    (code.calls-std_heap::GlobalAllocator::grow 𝓡.env wired) (code.calls-std_heap::GlobalAllocator::shrink 𝓡.env wired) M 𝓤 𝓛 𝓜 𝓡)
    (glues no_drop 𝓡.env (code.calls-burr_c::Destruct++none::drop 𝓡.env wired) heap heap_laws M 𝓤 𝓛 𝓜 𝓡) glue)
    asked (and_then ! (get ! refl) (no_more !)) (λ given.
    use1 𝓛 (later (some (λ (at : Ptr). ((‵ (flft κ share) ⊛ ‵ (flft [] full_share) ⊛ ‵ ftrue) ⊛ ‵ (RawPtr.own_val at (given ∷ []))) ⊛
    some (λ (ws : Lasts called asked.0.0 asked.0.3). ‵ (lasts called asked.0.0 asked.0.3 ws) ⊛ ‵ (block whole.alloc at))))) (id⊢ 𝓤 _) $
    await ! tt $ pick ! (λ at. split ! $ split ! $ split ! $ move ! (2 ∷ 3 ∷ []) $ feq_l ! (λ is_at. pick ! (λ ws. split ! $ drop ! $
    -- [the value and the right to free its block; the token; the heap's]
    lands_as ! (ap only is_at) refl (Ptr-Good at) $
    sets ! (agg ! (and_then ! (get ! refl) (no_more !))) refl (word_fits R at) $
    fpack ! Heap.Denot (λ alloc. block alloc at) whole.alloc $ makes_loose R ! at whole.value $
    returns ! (look_at ! 0 refl) $ free_all ! refl $ keep ! (1 ∷ 0 ∷ []) $
    -- [the token; the loose box]
    suffices ! _ (ends_at 𝓛 ended stayed c y (word at) (record { at = at; value = whole.value }) (tt, tt) (tt, tt)) $ says ! refl $
    nothing ! $ nothing ! $ join ! $ nothing ! $ move ! (2 ∷ 0 ∷ []) $ join ! $ done !))))))
