mod Folding
