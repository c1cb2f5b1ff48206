use Rattle.handlebars_examples.proofs.ScopeExamples.{array_name_example, two_names_example, shadow_example, last_example, keys_example, indices_example, no_members_example, each_inverse_example, with_inverse_example, too_far_up_example, bound_up_example, up_example, recursive_example, whole_example, lookup_example, text_index_example, number_key_example}
use Rattle.handlebars_examples.proofs.scopes.worked_scopes.Goals as goal

pub returns : goal.returns
returns c = record {
  array_name = array_name_example;
  two_names = two_names_example;
  shadow = shadow_example;
  last = last_example;
  keys = keys_example;
  indices = indices_example;
  no_members = no_members_example;
  each_inverse = each_inverse_example;
  with_inverse = with_inverse_example;
  too_far_up = too_far_up_example;
  bound_up = bound_up_example;
  up = up_example;
  recursive = recursive_example;
  whole = whole_example;
  lookup = lookup_example;
  text_index = text_index_example;
  number_key = number_key_example;
}
