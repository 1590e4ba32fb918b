-- Activations that wait.
use Rattle.std.proofs.Common.{◌≤◌, List, [], ◌∷◌, ℕ, length, arith}
use Rattle.burr_state.specs.Rules.Bench.{Activation}
use Rattle.burr_state.specs.Views.StateViews.{IsCallChain}

-- no more activations wait than there are procedures of lower numbers
pub chain_depth : (procedure : ℕ) (callers : List Activation) → IsCallChain procedure callers → length callers ≤ procedure
chain_depth procedure [] chain = omega arith
chain_depth procedure (caller ∷ callers) chain =
    let above = chain.0 in
    let less = chain_depth caller.procedure callers chain.2 in
    omega (arith, above, less)
