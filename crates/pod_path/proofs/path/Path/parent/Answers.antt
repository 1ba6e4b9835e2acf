use Rattle.std.proofs.Common.{◌≡◌, List, ℕ, Some, false, length, ap, sym, subst, ◌∙◌, arith, length-append}
use Rattle.iri_ref.specs.Resolution.{up_to_last_slash}
use Rattle.pod_path.specs.Norm.{IsPath}
use Rattle.pod_path.specs.Hierarchy.{is_root, without_last_slash, parent_of}
use Rattle.pod_path.proofs.NormalPaths.{parts_of}
use Rattle.pod_path.proofs.Twins.{parent_path}
use Rattle.pod_path.proofs.Ancestors.{parent_some, parent_front, parent_normal}
use Rattle.pod_path.proofs.path.Path.parent.Goals as goal

pub from_text-requires : goal.from_text-requires
from_text-requires c =
    let no_root : is_root c.args.self.now ≡ false = sym c.is_root.ensures ∙ c.if-is_root.false in
    subst IsPath (sym (c.parent_text.ensures ∙ ap (λ t. up_to_last_slash (without_last_slash t)) c.as_str.ensures.text)) (parent_path c.args.self.now c.as_str.ensures.path no_root)

pub returns-clause-container : goal.returns-clause-container
returns-clause-container c =
    let path = c.args.self.now in
    let no_root : is_root path ≡ false = sym c.is_root.ensures ∙ c.if-is_root.false in
    let text : c.in_ok-parent.parent ≡ up_to_last_slash (without_last_slash path) = c.in_ok-parent.ensures ∙ c.parent_text.ensures ∙ ap (λ t. up_to_last_slash (without_last_slash t)) c.as_str.ensures.text in
    let is : parent_of path ≡ Some c.in_ok-parent.parent = parent_some path no_root ∙ ap (λ (t : List ℕ). Some t) (sym text) in
    (parent_front path c.in_ok-parent.parent (parts_of path c.as_str.ensures.path).characters is).closed

pub returns-clause-shorter : goal.returns-clause-shorter
returns-clause-shorter c =
    let path = c.args.self.now in
    let no_root : is_root path ≡ false = sym c.is_root.ensures ∙ c.if-is_root.false in
    let text : c.in_ok-parent.parent ≡ up_to_last_slash (without_last_slash path) = c.in_ok-parent.ensures ∙ c.parent_text.ensures ∙ ap (λ t. up_to_last_slash (without_last_slash t)) c.as_str.ensures.text in
    let is : parent_of path ≡ Some c.in_ok-parent.parent = parent_some path no_root ∙ ap (λ (t : List ℕ). Some t) (sym text) in
    let found = parent_front path c.in_ok-parent.parent (parts_of path c.as_str.ensures.path).characters is in
    omega (arith, found.some, ap length found.whole, length-append c.in_ok-parent.parent found.rest)

pub returns-clause-normal : goal.returns-clause-normal
returns-clause-normal c = λ e.
    let path = c.args.self.now in
    let no_root : is_root path ≡ false = sym c.is_root.ensures ∙ c.if-is_root.false in
    let text : c.in_ok-parent.parent ≡ up_to_last_slash (without_last_slash path) = c.in_ok-parent.ensures ∙ c.parent_text.ensures ∙ ap (λ t. up_to_last_slash (without_last_slash t)) c.as_str.ensures.text in
    let is : parent_of path ≡ Some c.in_ok-parent.parent = parent_some path no_root ∙ ap (λ (t : List ℕ). Some t) (sym text) in
    let found = parent_front path c.in_ok-parent.parent (parts_of path c.as_str.ensures.path).characters is in
    parent_normal path c.in_ok-parent.parent c.as_str.ensures.path (subst IsPath (sym text) (parent_path path c.as_str.ensures.path no_root)) found e
