mod IdNameLemmas
