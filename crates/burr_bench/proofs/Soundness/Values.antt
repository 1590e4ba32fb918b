-- Values of forms: at more symbols, which change nothing where the forms are over their own; of symbols;
-- and of forms with arguments put in.
use Rattle.std.proofs.Common.{◌≡◌, ℕ, zero, suc, ◌-◌, List, [], ◌∷◌, ◌++◌, length, refl, sym, subst, ap, ◌∙◌, arith, append_assoc, length-append}
use Rattle.std.specs.Prelude.{ℤ, pos, ◌+ℤ◌, ◌*ℤ◌, ◌≤ℤ◌, All, map, replicate}
use Rattle.std.proofs.lemmas.Int.{ints}
use Rattle.std.proofs.lemmas.List.Elements.{All-nil, All-cons, All-head, All-tail, All-map}
use Rattle.std.proofs.Math.IntN.{suc_ℤ-*ℤ, zero-*ℤ}
use Rattle.burr_voxels.specs.declared.cell.Cell.{Cell}
use Rattle.burr_voxels.proofs.Common.Ahead.{same_cell}
use Rattle.burr_code.specs.declared.placement.Placement.{Placement}
use Rattle.burr_code.specs.declared.placement.Placement.TheVariants.{Apart, On}
use Rattle.burr_forms.specs.Rules.Forms.{Form, Point, dot, value, values, symbol, substituted}
use Rattle.burr_forms.specs.Rules.Points.{InBox, GuardsHold}
use Rattle.burr_container.specs.Rules.Plans.{FormCell}
use Rattle.burr_frames.specs.Rules.States.{cell_at, places_at}
use Rattle.burr_frames.specs.Rules.ControlRules.{substituted_cell, substituted_places, symbols_from}
use Rattle.burr_frames.specs.Views.Over.{AllZero, ZeroFrom, IsWellScoped, AllOver, AllPlacesOver}
use Rattle.burr_frames.proofs.Common.FormValues.{dot_zeros, value_substituted}

-- More symbols

pub box_length : (ranges : List (ℤ × ℤ)) (point : Point) → InBox ranges point
    → length point ≡ length ranges
box_length [] [] h = refl
box_length [] (x ∷ point) h = absurd h
box_length (range ∷ ranges) [] h = absurd h
box_length (range ∷ ranges) (x ∷ point) h = ap suc (box_length ranges point h.1)

pub box_more : (ranges more : List (ℤ × ℤ)) (point values : Point) → InBox ranges point
    → InBox more values → InBox (ranges ++ more) (point ++ values)
box_more [] more [] values h k = k
box_more [] more (x ∷ point) values h k = absurd h
box_more (range ∷ ranges) more [] values h k = absurd h
box_more (range ∷ ranges) more (x ∷ point) values h k =
    (h.0, box_more ranges more point values h.1 k)

dot_all_zero : (coefs : List ℤ) (point : Point) → AllZero coefs → dot coefs point ≡ pos 0
dot_all_zero [] point h = refl
dot_all_zero (c ∷ coefs) [] h = refl
dot_all_zero (c ∷ coefs) (x ∷ point) h =
    let ih = dot_all_zero coefs point h.1 in
    let e : (c *ℤ x) ≡ (pos 0 *ℤ x) = ap (λ k. k *ℤ x) h.0 in
    let u = zero-*ℤ x in
    omega (arith, ints)

dot_more : (coefs : List ℤ) (point more : Point) → ZeroFrom (length point) coefs
    → dot coefs (point ++ more) ≡ dot coefs point
dot_more [] [] more h = refl
dot_more (c ∷ coefs) [] more h = dot_all_zero (c ∷ coefs) more h
dot_more [] (x ∷ point) more h = refl
dot_more (c ∷ coefs) (x ∷ point) more h =
    let ih = dot_more coefs point more h in omega (arith, ints)

module _ (point more : Point) (n : ℕ) (len : length point ≡ n) where
  pub value_more : (f : Form) → IsWellScoped n f → value (point ++ more) f ≡ value point f
  value_more f h =
      let e = dot_more f.coefs point more (subst (λ k. ZeroFrom k f.coefs) (sym len) h) in omega (arith, ints)

  pub values_more : (forms : List Form) → AllOver n forms → values (point ++ more) forms ≡ values point forms
  values_more [] h = refl
  values_more (f ∷ forms) h =
      ap (λ x. x ∷ values (point ++ more) forms) (value_more f h.0) ∙ ap (λ xs. value point f ∷ xs) (values_more forms h.1)

  pub guards_more : (guards : List Form) → AllOver n guards → GuardsHold guards point → GuardsHold guards (point ++ more)
  guards_more [] h k = All-nil (λ (f : Form). pos 0 ≤ℤ value (point ++ more) f)
  guards_more (g ∷ guards) h k =
      All-cons (λ (f : Form). pos 0 ≤ℤ value (point ++ more) f) g guards
      (subst (λ x. pos 0 ≤ℤ x) (sym (value_more g h.0)) (All-head (λ (f : Form). pos 0 ≤ℤ value point f) g guards k))
      (guards_more guards h.1 (All-tail (λ (f : Form). pos 0 ≤ℤ value point f) g guards k))

  pub places_more : (places : List (Placement FormCell)) → AllPlacesOver n places
      → places_at (point ++ more) places ≡ places_at point places
  places_more [] h = refl
  places_more (Apart ∷ places) h = ap (λ ps. Apart ∷ ps) (places_more places h)
  places_more (On tray c ∷ places) h =
      ap (λ (x : Cell). On tray x ∷ places_at (point ++ more) places)
      (same_cell _ _ (value_more c.x h.0) (value_more c.y h.1) (value_more c.z h.2))
      ∙ ap (λ ps. On tray (cell_at point c) ∷ ps) (places_more places h.3)

-- Symbols

dot_symbol : (before : Point) (x : ℤ) (after : Point) (k : ℕ)
    → dot (replicate (length before) (pos 0) ++ pos 1 ∷ replicate k (pos 0)) (before ++ x ∷ after)
    ≡ x
dot_symbol [] x after k =
    let e =
    dot_zeros k after in let o : (pos 1 *ℤ x) ≡ ((pos 0 *ℤ x) +ℤ x) =
    suc_ℤ-*ℤ (pos 0) x in let u = zero-*ℤ x in omega (arith, ints)
dot_symbol (y ∷ before) x after k =
    let ih = dot_symbol before x after k in let e = zero-*ℤ y in omega (arith, ints)

pub value_symbol : (n : ℕ) (before : Point) (x : ℤ) (after : Point) → length before ≡ n
    → value (before ++ x ∷ after) (symbol n) ≡ x
value_symbol n before x after e =
    subst (λ n. value (before ++ x ∷ after) (symbol n) ≡ x) e
    (let h = dot_symbol before x after (7 - length before) in omega (arith, ints))

pub symbols_are : (n r : ℕ) (before results : Point) → length before ≡ n → length results ≡ r
    → values (before ++ results) (symbols_from n r) ≡ results
symbols_are n zero before [] len long = refl
symbols_are n (suc r) before (x ∷ results) len long =
    ap (λ y. y ∷ values (before ++ x ∷ results) (symbols_from (suc n) r)) (value_symbol n before x results len)
    ∙ ap (λ ys. x ∷ ys) (ap (λ p. values p (symbols_from (suc n) r)) (sym (append_assoc before (x ∷ []) results))
    ∙ symbols_are (suc n) r (before ++ x ∷ []) results (length-append before (x ∷ []) ∙ (let l = len in omega arith)) (omega arith))
symbols_are n r before results len long = absurd (omega arith)

-- Arguments put in

pub places_substituted : (arguments : List Form) (places : List (Placement FormCell)) (point : Point)
    → places_at point (substituted_places arguments places) ≡ places_at (values point arguments) places
places_substituted arguments [] point = refl
places_substituted arguments (Apart ∷ places) point =
    ap (λ ps. Apart ∷ ps) (places_substituted arguments places point)
places_substituted arguments (On tray c ∷ places) point =
    ap (λ (x : Cell). On tray x ∷ places_at point (substituted_places arguments places))
    (same_cell (cell_at point (substituted_cell arguments c)) _
    (value_substituted arguments c.x point) (value_substituted arguments c.y point)
    (value_substituted arguments c.z point))
    ∙ ap (λ ps. On tray (cell_at (values point arguments) c) ∷ ps)
    (places_substituted arguments places point)

pub guards_substituted : (arguments guards : List Form) (point : Point) → GuardsHold guards (values point arguments)
    → GuardsHold (map (substituted arguments) guards) point
guards_substituted arguments guards point h =
    All-map (λ (f : Form). pos 0 ≤ℤ value point f) (substituted arguments) guards
    (subst (λ (of : Form → ℤ). All (λ g. pos 0 ≤ℤ of g) guards) (λ i g. sym (value_substituted arguments g point) i) h)
