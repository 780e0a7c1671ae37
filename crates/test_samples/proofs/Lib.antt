mod FittingStates
mod ModelsOfFiles
