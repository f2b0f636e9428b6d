use Rattle.since_words.proofs.words.asked_of.Goals as goal

pub returns : goal.returns
returns c = record {
  file = c.file_of.ensures;
  root = c.value_of.ensures;
  save = c.is_named.ensures;
  quick = c.is_named-2.ensures;
  lists = c.is_named-3.ensures;
  long = c.is_named-4.ensures;
  print0 = c.is_named-5.ensures;
  json = c.is_named-6.ensures;
  quiet = c.is_named-7.ensures;
  exclude_hidden = c.is_named-8.ensures;
  one_file_system = c.is_named-9.ensures;
  depth = c.number_of.ensures;
  excludes = c.in_ok-excludes.ensures;
  ignore = c.is_named-10.ensures;
  threads = c.number_of-2.ensures;
}
