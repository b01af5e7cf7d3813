-- The sites of an edited function are like those of the function, or takes and gives of monitors.
use Rattle.std.proofs.Common.{List, refl, subst, sym, ℕ, ◌++◌, ◌∷◌}
use Rattle.std.specs.Prelude.{map}
use Rattle.c_tree.specs.Lined.{Function, Stmt, Stmts}
use Rattle.c_rules.specs.Sites.{Site, Standing, declared, inner_site, inside, own_site, sites_from}
use Rattle.kept_rules.proofs.Like.{declared_same, inside_stands, monitor_of, nothing_declared, nothing_inside}
use Rattle.kept_rules.proofs.Sited.{EditBefore, Sits, Stands}
use Rattle.kept_rules.specs.Edit.{EditOf, Edits, Way}

pub sits_append : (r : Way) (g f : ℕ × Function) (xs ys zs ws : List Site) → Sits r g f xs ys → Sits r g f zs ws → Sits r g f (xs ++ zs) (ys ++ ws)
sits_append r g f xs ys zs ws Sits.none there = there
sits_append r g f xs ys zs ws (Sits.put x us vs is more) there = Sits.put x (us ++ zs) (vs ++ ws) is (sits_append r g f us vs zs ws more there)
sits_append r g f xs ys zs ws (Sits.keep x y us vs like more) there = Sits.keep x y (us ++ zs) (vs ++ ws) like (sits_append r g f us vs zs ws more there)

-- inside statements that are like each other
pub inner_sits : (r : Way) (g f : ℕ × Function) (bs cs : List Stmt) (s t : Stmt) (xs ys : List Standing) → EditOf r s t → EditBefore r bs cs → Stands r xs ys
    → Sits r g f (map (inner_site g bs s) xs) (map (inner_site f cs t) ys)
inner_sits r g f bs cs s t xs ys holder before Stands.none = Sits.none
inner_sits r g f bs cs s t xs ys holder before (Stands.put x us vs is more) =
    Sits.put (inner_site g bs s x) (map (inner_site g bs s) us) (map (inner_site f cs t) vs) is (inner_sits r g f bs cs s t us vs holder before more)
inner_sits r g f bs cs s t xs ys holder before (Stands.keep u v scope us vs like more) =
    Sits.keep (inner_site g bs s (record { stmt = u; scope = scope })) (inner_site f cs t (record { stmt = v; scope = scope })) (map (inner_site g bs s) us) (map (inner_site f cs t) vs)
    (record { stmt = like; scope = refl; own = refl; holder = holder; before = before; place = (refl, refl); function = (refl, refl) }) (inner_sits r g f bs cs s t us vs holder before more)

pub sites_sit : (r : Way) (g f : ℕ × Function) (bs cs : List Stmt) (scope : List (List ℕ)) (ss ts : Stmts) → EditBefore r bs cs → Edits r ss ts
    → Sits r g f (sites_from g bs scope ss) (sites_from f cs scope ts)
sites_sit r g f bs cs scope ss ts before Edits.none = Sits.none
sites_sit r g f bs cs scope ss ts before (Edits.put s us vs is more) =
    subst (λ ds. Sits r g f (map (inner_site g bs s) (inside scope s) ++ own_site g bs scope s ∷ sites_from g (s ∷ bs) (ds ++ scope) us) (sites_from f cs scope vs)) (sym (nothing_declared s (monitor_of r s is)))
    (subst (λ ins. Sits r g f (map (inner_site g bs s) ins ++ own_site g bs scope s ∷ sites_from g (s ∷ bs) scope us) (sites_from f cs scope vs)) (sym (nothing_inside scope s (monitor_of r s is)))
    (Sits.put (own_site g bs scope s) (sites_from g (s ∷ bs) scope us) (sites_from f cs scope vs) is
    (sites_sit r g f (s ∷ bs) cs scope us vs (EditBefore.put s bs cs (monitor_of r s is) before) more)))
sites_sit r g f bs cs scope ss ts before (Edits.keep s t us vs like more) =
    sits_append r g f (map (inner_site g bs s) (inside scope s)) (map (inner_site f cs t) (inside scope t))
    (own_site g bs scope s ∷ sites_from g (s ∷ bs) (declared s ++ scope) us) (own_site f cs scope t ∷ sites_from f (t ∷ cs) (declared t ++ scope) vs)
    (inner_sits r g f bs cs s t (inside scope s) (inside scope t) like before (inside_stands r scope s t like))
    (Sits.keep (own_site g bs scope s) (own_site f cs scope t) (sites_from g (s ∷ bs) (declared s ++ scope) us) (sites_from f (t ∷ cs) (declared t ++ scope) vs)
    (record { stmt = like; scope = refl; own = refl; holder = like; before = before; place = (refl, refl); function = (refl, refl) })
    (subst (λ ds. Sits r g f (sites_from g (s ∷ bs) (declared s ++ scope) us) (sites_from f (t ∷ cs) (ds ++ scope) vs)) (declared_same r s t like)
    (sites_sit r g f (s ∷ bs) (t ∷ cs) (declared s ++ scope) us vs (EditBefore.keep s t bs cs like before) more)))
