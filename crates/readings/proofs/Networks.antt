-- The relations of a network's cells exist.
use Rattle.std.proofs.Common.{◌≡◌, ℕ, ◌<◌, length, get_or, vec_items, vec_len, sym, ap, ◌∙◌, arith}
use Rattle.std.proofs.lemmas.List.{get_or-map}
use Rattle.layouts.specs.declared.network.Edge.{Edge}
use Rattle.layouts.specs.declared.network.Network.{Network}
use Rattle.layouts.specs.Admission.{shape_of}
use Rattle.layouts.proofs.Kept.{network_laws}
use Rattle.readings.specs.Balance.{Sound}

pub network_sound : (n : Network) → Sound (shape_of n)
network_sound n = record { left = (network_laws n).left; entered = (network_laws n).entered }

-- the relations of an edge
pub edge_inside : (n : Network) (c : ℕ) (e : Edge) → c < vec_len n.edges → e ≡ get_or (vec_items n.edges) c e → (e.leaves < n.relations) × (e.enters < n.relations)
edge_inside n c e l is =
    let h : c < length (vec_items n.edges) = omega (arith, n.edges.ok.0) in
    let a = ap (λ (x : Edge). x.leaves) is ∙ sym (get_or-map (λ x. x.leaves) (vec_items n.edges) c e 0 h) in
    let b = ap (λ (x : Edge). x.enters) is ∙ sym (get_or-map (λ x. x.enters) (vec_items n.edges) c e 0 h) in
    (omega (arith, a, n.lawful.left c (omega (arith, n.edges.ok.0))), omega (arith, b, n.lawful.entered c (omega (arith, n.edges.ok.0))))
